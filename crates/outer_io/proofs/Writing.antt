-- Texts put one after the other.
use Rattle.std.proofs.Common.{Option, ◌≡◌, ℕ, ◌+◌, ◌-◌, ◌<◌, Bool, true, false, List, [], ◌∷◌, ◌++◌, length, take, get_or, refl, sym, ap, ◌∙◌, subst, arith, length-append, append-nil, append_assoc}
use Rattle.std.specs.List.{flat_map}
use Rattle.std.proofs.lemmas.Grind.{flat_map-append, take_at_read}
use Rattle.outer_io.specs.Faults.{Rose}
use Rattle.outer_io.specs.Calls.{CountsAtMost}
use Rattle.outer_io.specs.Writes.{AppendsPart, WritesStop}
use Rattle.outer_io.specs.Puts.{Progress, Puts, PassesOn}
use Rattle.outer_io.specs.declared.sink.Sink.{Ghosts}
use Rattle.outer_io.specs.declared.writer.Writer.{Writer}
use Rattle.std.proofs.KnownBytes.{Appends-trans, Appends-nil}
use Rattle.outer_io.proofs.Appended.{whole_then_part, part_of_both, whole_then_stop, stop_of_both}
use Rattle.outer_io.proofs.Counted.{no_call, calls_then}

pass_then : (wa wb wc : Option (List ℕ)) (ga gb gc x y : List ℕ) → PassesOn wa wb ga x gb → PassesOn wb wc gb y gc → PassesOn wa wc ga (x ++ y) gc
pass_then wa wb wc ga gb gc x y p q =
    (p.0 ++ q.0, sym (append_assoc ga x y) ∙ ap (λ (t : List ℕ). t ++ y) p.1 ∙ append_assoc p.0 gb y ∙ ap (λ (t : List ℕ). p.0 ++ t) q.1 ∙ sym (append_assoc p.0 q.0 gc), Appends-trans wa wb wc p.0 q.0 p.2 q.2)

module _ {K : Type 0} {sink : Ghosts K} {a b c : Writer K} {x y : List ℕ} where
  part_then : (f : Bool) → b.failed ≡ f → Progress sink a b x → Progress sink b c y → a.failed ≡ false → c.failed ≡ true → AppendsPart (sink.written a.sink.now) (sink.written c.sink.now) (a.gathered.items ++ (x ++ y))
  part_then true e p q sound fails =
      let first = part_of_both (sink.written a.sink.now) (sink.written b.sink.now) (a.gathered.items ++ x) y (p.part sound e) in
      subst (λ (w : Writer K). AppendsPart (sink.written a.sink.now) (sink.written w.sink.now) (a.gathered.items ++ (x ++ y))) (sym (q.still e))
      (subst (λ (t : List ℕ). AppendsPart (sink.written a.sink.now) (sink.written b.sink.now) t) (append_assoc a.gathered.items x y) first)
  part_then false e p q sound fails =
      let pass = (p.whole e).1 in
      let text : pass.0 ++ (b.gathered.items ++ y) ≡ a.gathered.items ++ (x ++ y) = sym (append_assoc pass.0 b.gathered.items y) ∙ ap (λ (t : List ℕ). t ++ y) (sym pass.1) ∙ append_assoc a.gathered.items x y in
      subst (λ (t : List ℕ). AppendsPart (sink.written a.sink.now) (sink.written c.sink.now) t) text (whole_then_part _ _ _ pass.0 (b.gathered.items ++ y) pass.2 (q.part e fails))

  stop_then : (f : Bool) → b.failed ≡ f → Progress sink a b x → Progress sink b c y → a.failed ≡ false → c.failed ≡ true → WritesStop (sink.written a.sink.now) (sink.written c.sink.now) (sink.calls a.sink.now) (sink.calls c.sink.now) (a.gathered.items ++ (x ++ y))
  stop_then true e p q sound fails =
      let first = stop_of_both (sink.written a.sink.now) (sink.written b.sink.now) (sink.calls a.sink.now) (sink.calls b.sink.now) (a.gathered.items ++ x) y (p.stops sound e) in
      subst (λ (w : Writer K). WritesStop (sink.written a.sink.now) (sink.written w.sink.now) (sink.calls a.sink.now) (sink.calls w.sink.now) (a.gathered.items ++ (x ++ y))) (sym (q.still e))
      (subst (λ (t : List ℕ). WritesStop (sink.written a.sink.now) (sink.written b.sink.now) (sink.calls a.sink.now) (sink.calls b.sink.now) t) (append_assoc a.gathered.items x y) first)
  stop_then false e p q sound fails =
      let pass = (p.whole e).1 in
      let text : pass.0 ++ (b.gathered.items ++ y) ≡ a.gathered.items ++ (x ++ y) = sym (append_assoc pass.0 b.gathered.items y) ∙ ap (λ (t : List ℕ). t ++ y) (sym pass.1) ∙ append_assoc a.gathered.items x y in
      let size : length a.gathered.items + length x - length b.gathered.items ≡ length pass.0 = omega (arith, ap length pass.1, length-append a.gathered.items x, length-append pass.0 b.gathered.items) in
      let few = subst (λ (n : ℕ). CountsAtMost (sink.calls a.sink.now) (sink.calls b.sink.now) n) size (p.few e) in
      subst (λ (t : List ℕ). WritesStop (sink.written a.sink.now) (sink.written c.sink.now) (sink.calls a.sink.now) (sink.calls c.sink.now) t) text (whole_then_stop _ _ _ _ _ _ pass.0 (b.gathered.items ++ y) pass.2 few (q.stops e fails))

  few_then : Progress sink a b x → Progress sink b c y → c.failed ≡ false → CountsAtMost (sink.calls a.sink.now) (sink.calls c.sink.now) (length a.gathered.items + length (x ++ y) - length c.gathered.items)
  few_then p q e =
      let second = q.whole e in
      let first = p.whole second.0 in
      let there : length a.gathered.items + length x ≡ length first.1.0 + length b.gathered.items = omega (arith, ap length first.1.1, length-append a.gathered.items x, length-append first.1.0 b.gathered.items) in
      let here : length b.gathered.items + length y ≡ length second.1.0 + length c.gathered.items = omega (arith, ap length second.1.1, length-append b.gathered.items y, length-append second.1.0 c.gathered.items) in
      calls_then _ _ _ _ _ _ (p.few second.0) (q.few e) (omega (arith, there, here, length-append x y))

  rose_then : (f : Bool) → b.failed ≡ f → Progress sink a b x → Progress sink b c y → a.failed ≡ false → c.failed ≡ true → Rose (sink.faults a.sink.now) (sink.faults c.sink.now)
  rose_then true e p q sound fails = omega (arith, p.rose sound e, q.later)
  rose_then false e p q sound fails = omega (arith, p.later, q.rose e fails)

  Progress-then : Progress sink a b x → Progress sink b c y → Progress sink a c (x ++ y)
  Progress-then p q = record {
    whole = λ e. let second = q.whole e in let first = p.whole second.0 in (first.0, pass_then _ _ _ a.gathered.items b.gathered.items c.gathered.items x y first.1 second.1);
    part = part_then b.failed refl p q;
    rose = rose_then b.failed refl p q;
    few = few_then p q;
    stops = stop_then b.failed refl p q;
    quiet = λ e. q.quiet e ∙ p.quiet (q.whole e).0;
    still = λ e. q.still (ap (λ (w : Writer K). w.failed) (p.still e) ∙ e) ∙ p.still e;
    later = omega (arith, p.later, q.later);
    room = λ n sound takes fits.
        let first = p.room n sound takes (omega (arith, length-append x y)) in
        let second = q.room (n + length b.gathered.items - (length a.gathered.items + length x)) first.0 first.1 (omega (arith, length-append x y)) in
        (second.0, subst (λ (k : ℕ). sink.takes c.sink.now k) (omega (arith, length-append x y)) second.1);
    same = q.same ∙ p.same;
  }

-- one text, and then another
pub puts_then : {K : Type 0} (sink : Ghosts K) (a b c : Writer K) (x y : List ℕ) → Puts sink a b x → Puts sink b c y → Puts sink a c (x ++ y)
unfolding Puts
puts_then sink a b c x y p q = Progress-then p q

-- the same in the form that `grind` applies
pub puts_step : {K : Type 0} (sink : Ghosts K) (a b : Writer K) (x : List ℕ) → Puts sink a b x → Puts sink a b x × ((c : Writer K) (y : List ℕ) → Puts sink b c y → Puts sink a c (x ++ y))
puts_step sink a b x p = (p, λ c y q. puts_then sink a b c x y p q)

-- no text
pub puts_nothing : {K : Type 0} (sink : Ghosts K) (a : Writer K) → Puts sink a a []
unfolding Puts
puts_nothing sink a = record {
  whole = λ e. (e, ([], append-nil a.gathered.items, Appends-nil (sink.written a.sink.now)));
  part = λ sound fails. absurd (cc (sound, fails));
  rose = λ sound fails. absurd (cc (sound, fails));
  few = λ e. no_call (sink.calls a.sink.now) _;
  stops = λ sound fails. absurd (cc (sound, fails));
  quiet = λ e. refl;
  still = λ e. refl;
  later = omega arith;
  room = λ n sound takes fits. (sound, subst (λ (k : ℕ). sink.takes a.sink.now k) (omega arith) takes);
  same = refl;
}

-- in a loop over a list, the text of one item more. `x` is the item, as the loop reads it
pub puts_item : {K X : Type 0} (sink : Ghosts K) (a b c : Writer K) (text : X → List ℕ) (xs : List X) (i : ℕ) (x d : X) → i < length xs → x ≡ get_or xs i d
    → Puts sink a b (flat_map text (take i xs)) → Puts sink b c (text x) → Puts sink a c (flat_map text (take (i + 1) xs))
puts_item sink a b c text xs i x d within is p q =
    let front : take (i + 1) xs ≡ take i xs ++ x ∷ [] = (take_at_read xs i d within).1 ∙ ap (λ y. take i xs ++ y ∷ []) (sym is) in
    let all : flat_map text (take (i + 1) xs) ≡ flat_map text (take i xs) ++ text x =
    ap (flat_map text) front ∙ flat_map-append text (take i xs) (x ∷ []) ∙ ap (λ t. flat_map text (take i xs) ++ t) (append-nil (text x)) in
    rw all (puts_then sink a b c (flat_map text (take i xs)) (text x) p q)

-- the same for `grind`, where a read is its own default, as at a struct or an enum
pub puts_item_step : {K X : Type 0} (sink : Ghosts K) (a b : Writer K) (text : X → List ℕ) (xs : List X) (i : ℕ) → Puts sink a b (flat_map text (take i xs))
    → Puts sink a b (flat_map text (take i xs)) × ((c : Writer K) (x : X) → i < length xs → x ≡ get_or xs i x → Puts sink b c (text x) → Puts sink b c (text x) × Puts sink a c (flat_map text (take (i + 1) xs)))
puts_item_step sink a b text xs i p = (p, λ c x within is q. (q, puts_item sink a b c text xs i x x within is p q))

-- what a function of several pieces needs
pub ruleset put_steps = (puts_step, puts_nothing, puts_item_step)
