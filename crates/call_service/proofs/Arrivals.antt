-- How a request arrives, by what is kept of its client's last call.
use Rattle.std.proofs.Common.{◌≡◌, ℕ, ◌+◌, ◌-◌, ◌≤◌, ◌<◌, true, false, ◌==◌, inl, inr, List, length, Option, Some, None, refl, ap, sym, ◌∙◌, arith, eq-eqb}
use Rattle.std.proofs.lemmas.Bool.{eqb-true, cases_Bool, ne_eqb, false_from_ne_true}
use Rattle.call_service.specs.declared.carried.Carried.{Carried}
use Rattle.call_service.specs.declared.request.Request.{Request}
use Rattle.call_service.specs.declared.service.Arrival.TheVariants.{Repeat, Next, Gap}
use Rattle.call_service.specs.declared.service.Last.{Last}
use Rattle.call_service.specs.Served.{AreNumbered, calls_of, last_of, is_known, next_number, reply_again}
use Rattle.call_service.specs.Steps.{arrival_of, kept_last, reply_again_by}
use Rattle.call_service.proofs.Numbers.{among, is_among, last_number, no_last}

-- ---- the number that is kept

kept_number_of : (c : ℕ) (h : List Carried) (o : Option Carried) → AreNumbered h → last_of c h ≡ o → (kept_last o).number ≡ length (calls_of c h)
kept_number_of c h None numbered is = sym (ap length (no_last (calls_of c h) is))
kept_number_of c h (Some e) numbered is = let last = last_number 1 (calls_of c h) e (numbered c) is in omega (arith, last)

kept_number : (c : ℕ) (h : List Carried) (l : Last) → AreNumbered h → l ≡ kept_last (last_of c h) → l.number ≡ length (calls_of c h)
kept_number c h l numbered is = ap (λ (k : Last). k.number) is ∙ kept_number_of c h (last_of c h) numbered refl

unknown_by : (h : List Carried) (r : Request) → ((1 ≤ r.number) → (r.number < 1 + length (calls_of r.client h)) → 1 ≤ 0) → AreNumbered h → is_known r.client r.number h ≡ false
unknown_by h r outside numbered =
    false_from_ne_true (is_known r.client r.number h) (λ is. let at = among 1 r.number (calls_of r.client h) (numbered r.client) is in let no = outside at.0 at.1 in omega (arith, no))

again_is : (number : ℕ) (o : Option Carried) → (number ≡ 0 → ⊥) → reply_again number o ≡ reply_again_by number (kept_last o)
again_is number None some = rw (ne_eqb number 0 some) refl
again_is number (Some e) some = elim (cases_Bool (e.number == number)) [
  | inl same ↦ rw (same, eq-eqb number e.number (sym (eqb-true e.number number same))) refl
  | inr other ↦ rw (other, ne_eqb number e.number (λ is. let t = eq-eqb e.number number (sym is) in cc)) refl
]

-- ---- the four cases

gap_by : (h : List Carried) (r : Request) → is_known r.client r.number h ≡ false → (r.number == next_number r.client h) ≡ false → arrival_of h r ≡ Gap
gap_by h r new other = rw (new, other) refl

pub gap-zero : (h : List Carried) (r : Request) → AreNumbered h → r.number ≡ 0 → arrival_of h r ≡ Gap
gap-zero h r numbered zero_is =
    gap_by h r (unknown_by h r (λ low high. omega (arith, low, zero_is)) numbered) (ne_eqb r.number (next_number r.client h) (λ same. omega (arith, zero_is, same)))

pub repeat_is : (h : List Carried) (r : Request) (l : Last) → AreNumbered h → l ≡ kept_last (last_of r.client h) → (r.number ≡ 0 → ⊥) → r.number ≤ l.number → arrival_of h r ≡ Repeat (reply_again_by r.number l)
repeat_is h r l numbered is some low =
    let count = kept_number r.client h l numbered is in
    let known : is_known r.client r.number h ≡ true = is_among 1 r.number (calls_of r.client h) (numbered r.client) (omega (arith, some)) (omega (arith, low, count)) in
    rw (known, is) (ap Repeat (again_is r.number (last_of r.client h) some))

pub next_is : (h : List Carried) (r : Request) (l : Last) → AreNumbered h → l ≡ kept_last (last_of r.client h) → l.number < r.number → r.number - 1 ≡ l.number → arrival_of h r ≡ Next
next_is h r l numbered is more same =
    let count = kept_number r.client h l numbered is in
    let own : (r.number == next_number r.client h) ≡ true = eq-eqb r.number (next_number r.client h) (omega (arith, count, more, same)) in
    rw (unknown_by h r (λ low high. omega (arith, high, more, count)) numbered, own) refl

pub gap-more : (h : List Carried) (r : Request) (l : Last) → AreNumbered h → l ≡ kept_last (last_of r.client h) → l.number < r.number → (r.number - 1 ≡ l.number → ⊥) → arrival_of h r ≡ Gap
gap-more h r l numbered is more apart =
    let count = kept_number r.client h l numbered is in
    gap_by h r (unknown_by h r (λ low high. omega (arith, high, more, count)) numbered) (ne_eqb r.number (next_number r.client h) (λ same. apart (omega (arith, same, count))))
