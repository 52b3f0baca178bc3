-- A text put to a new writer that is finished then is written, or breaks off.
use Rattle.std.proofs.Common.{◌≡◌, ◌≤◌, ℕ, ◌+◌, ◌-◌, Bool, true, false, List, [], ◌++◌, length, length-append, Result, Ok, Err, IsOk, OnErr, refl, sym, ap, ◌∙◌, subst, arith}
use Rattle.std.specs.Io.KnownBytes.{Appends}
use Rattle.outer_io.specs.Faults.{HasCause}
use Rattle.outer_io.specs.Calls.{CountsAtMost}
use Rattle.outer_io.specs.Writes.{Writes, WritesStop, AppendsPart}
use Rattle.outer_io.specs.Puts.{Progress, Puts, IsFinished}
use Rattle.outer_io.specs.declared.sink.Sink.{Ghosts}
use Rattle.outer_io.specs.declared.writer.Writer.{Writer}
use Rattle.std.proofs.KnownBytes.{Appends-trans}
use Rattle.outer_io.proofs.Appended.{whole_then_part, whole_then_stop}

-- what holds of the text as a whole
pub record Written {K T E : Type 0} (sink : Ghosts K) (start end : K) (result : Result T E) (text : List ℕ) : Type 0 where
  pub bytes : Writes (sink.written start) (sink.written end) result text
  pub cause : HasCause (sink.faults start) (sink.faults end) result
  pub room : (n : ℕ) → sink.takes start n → length text ≤ n → IsOk result
  pub stops : OnErr result (WritesStop (sink.written start) (sink.written end) (sink.calls start) (sink.calls end) text)

module _ {K T E : Type 0} {sink : Ghosts K} {first last : Writer K} {end : K} {text : List ℕ} where
  writes : (result : Result T E) (f : Bool) → last.failed ≡ f → Progress sink first last text → IsFinished sink last end result → first.failed ≡ false → first.gathered.items ≡ [] → Writes (sink.written first.sink.now) (sink.written end) result text
  writes (Ok x) true e p q sound empty = absurd (cc ((q.failed e).0))
  writes (Err x) true e p q sound empty =
      subst (λ (k : K). AppendsPart (sink.written first.sink.now) (sink.written k) text) (sym (q.failed e).1) (subst (λ (t : List ℕ). AppendsPart (sink.written first.sink.now) (sink.written last.sink.now) (t ++ text)) empty (p.part sound e))
  writes (Ok x) false e p q sound empty =
      let pass = (p.whole e).1 in
      let all : pass.0 ++ last.gathered.items ≡ text = sym pass.1 ∙ ap (λ (t : List ℕ). t ++ text) empty in
      subst (λ (t : List ℕ). Appends (sink.written first.sink.now) (sink.written end) t) all (Appends-trans _ _ _ pass.0 last.gathered.items pass.2 (q.bytes e))
  writes (Err x) false e p q sound empty =
      let pass = (p.whole e).1 in
      let all : pass.0 ++ last.gathered.items ≡ text = sym pass.1 ∙ ap (λ (t : List ℕ). t ++ text) empty in
      subst (λ (t : List ℕ). AppendsPart (sink.written first.sink.now) (sink.written end) t) all (whole_then_part _ _ _ pass.0 last.gathered.items pass.2 (q.bytes e))

  stops : (result : Result T E) (f : Bool) → last.failed ≡ f → Progress sink first last text → IsFinished sink last end result → first.failed ≡ false → first.gathered.items ≡ [] → OnErr result (WritesStop (sink.written first.sink.now) (sink.written end) (sink.calls first.sink.now) (sink.calls end) text)
  stops (Ok x) f e p q sound empty = tt
  stops (Err x) true e p q sound empty =
      subst (λ (k : K). WritesStop (sink.written first.sink.now) (sink.written k) (sink.calls first.sink.now) (sink.calls k) text) (sym (q.failed e).1)
      (subst (λ (t : List ℕ). WritesStop (sink.written first.sink.now) (sink.written last.sink.now) (sink.calls first.sink.now) (sink.calls last.sink.now) (t ++ text)) empty (p.stops sound e))
  stops (Err x) false e p q sound empty =
      let pass = (p.whole e).1 in
      let all : pass.0 ++ last.gathered.items ≡ text = sym pass.1 ∙ ap (λ (t : List ℕ). t ++ text) empty in
      let size : length first.gathered.items + length text - length last.gathered.items ≡ length pass.0 = omega (arith, ap length pass.1, length-append first.gathered.items text, length-append pass.0 last.gathered.items) in
      let few = subst (λ (n : ℕ). CountsAtMost (sink.calls first.sink.now) (sink.calls last.sink.now) n) size (p.few e) in
      subst (λ (t : List ℕ). WritesStop (sink.written first.sink.now) (sink.written end) (sink.calls first.sink.now) (sink.calls end) t) all (whole_then_stop _ _ _ _ _ _ pass.0 last.gathered.items pass.2 few (q.stops e))

  has_cause : (result : Result T E) (f : Bool) → last.failed ≡ f → Progress sink first last text → IsFinished sink last end result → first.failed ≡ false → HasCause (sink.faults first.sink.now) (sink.faults end) result
  has_cause (Ok x) true e p q sound = absurd (cc ((q.failed e).0))
  has_cause (Err x) true e p q sound =
      subst (λ (k : K). HasCause {T = T} {E = E} (sink.faults first.sink.now) (sink.faults k) (Err x)) (sym (q.failed e).1) (record { later = p.later; failed = p.rose sound e; quiet = tt })
  has_cause (Ok x) false e p q sound = record { later = omega (arith, p.later, (q.cause e).later); failed = tt; quiet = (q.cause e).quiet ∙ p.quiet e }
  has_cause (Err x) false e p q sound = record { later = omega (arith, p.later, (q.cause e).later); failed = omega (arith, p.later, (q.cause e).failed); quiet = tt }

  has_room : (result : Result T E) → Progress sink first last text → IsFinished sink last end result → first.failed ≡ false → first.gathered.items ≡ [] → (n : ℕ) → sink.takes first.sink.now n → length text ≤ n → IsOk result
  has_room result p q sound empty n takes fits =
      let none : length first.gathered.items ≡ 0 = ap length empty in
      let after = p.room n sound takes (omega (arith, none)) in
      q.room _ after.0 after.1 (omega (arith, none, fits))

pub finished : {K T E : Type 0} (sink : Ghosts K) (first last : Writer K) (end : K) (result : Result T E) (text : List ℕ) → first.failed ≡ false → first.gathered.items ≡ [] → Puts sink first last text → IsFinished sink last end result → Written sink first.sink.now end result text
unfolding Puts
finished sink first last end result text sound empty p q = record {
  bytes = writes result last.failed refl p q sound empty;
  cause = has_cause result last.failed refl p q sound;
  room = has_room result p q sound empty;
  stops = stops result last.failed refl p q sound empty;
}

-- the writer stays on its sink
pub puts_same : {K : Type 0} (sink : Ghosts K) (first last : Writer K) (text : List ℕ) → Puts sink first last text → last.sink.ghost_name ≡ first.sink.ghost_name
unfolding Puts
puts_same sink first last text p = p.same
