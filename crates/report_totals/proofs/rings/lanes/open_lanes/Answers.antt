use Rattle.std.proofs.Common.{◌≡◌, ℕ, zero, suc, List, [], ◌∷◌, ◌++◌, length, Some, sym, ap, ap₂, subst, ◌∙◌, arith, length-append}
use Rattle.std.specs.Prelude.{slice_get}
use Rattle.ring_numbers.specs.SenderNumbers.{Numbers, at_start}
use Rattle.report_text.specs.RingPass.{given_to}
use Rattle.report_totals.specs.SenderLanes.{size_to}
use Rattle.report_totals.proofs.rings.lanes.open_lanes.Goals as goal

-- an item that is added stands last
added : {A : Type 0} (P : ℕ → A → Type 0) (xs : List A) (new : A) → ((i : ℕ) (x : A) → slice_get xs i ≡ Some x → P i x) → P (length xs) new → (i : ℕ) (x : A) → slice_get (xs ++ new ∷ []) i ≡ Some x → P i x
added P [] new each last zero x at = let same : new ≡ x = cc in subst (P 0) same last
added P [] new each last (suc i) x at = absurd cc
added P (y ∷ ys) new each last zero x at = each 0 x at
added P (y ∷ ys) new each last (suc i) x at = added (λ k. P (suc k)) ys new (λ k z got. each (suc k) z got) last i x at

pub loop-receiver-preserved : goal.loop-receiver-preserved
loop-receiver-preserved c =
    let i = c.loop-receiver.receiver in
    let s = c.args.scenario.now in
    let before = c.loop-receiver.lanes.items in
    let many : length before ≡ i = c.loop-receiver.invariant.many in
    record {
      many = ap (λ (ns : List Numbers). length ns) c.in_ok-append.ensures ∙ omega (arith, length-append before (c.in_ok-new.field-0 ∷ []), many);
      each = λ js are.
          let start = λ (p : ℕ). at_start (size_to s c.args.sender p) (given_to s js c.args.sender p) in
          let new : c.in_ok-new.field-0 ≡ start i =
          c.in_ok-new.ensures ∙ ap₂ at_start c.size_between-size.ensures (c.given_back-places.ensures s js are c.requires.sender) in
          subst (λ (ns : List Numbers). (p : ℕ) (n : Numbers) → slice_get ns p ≡ Some n → n ≡ start p) (sym c.in_ok-append.ensures)
          (added (λ p n. n ≡ start p) before c.in_ok-new.field-0 (c.loop-receiver.invariant.each js are) (new ∙ ap start (sym many)));
    }
