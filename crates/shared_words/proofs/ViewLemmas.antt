-- What a step keeps of the views. It serves both halves.
use Rattle.std.proofs.Common.{◌≡◌, ◌≢◌, ◌⊎◌, ℕ, ◌≤◌, List, [], ◌∷◌, ◌++◌, length, set, sym, refl, ap, ◌∙◌, subst, inl, inr, ⊎_elim, append_assoc, append-nil, le_trans}
use mathlib.Core.Option.{some, some-injective}
use lib.ListN.{get_elem?}
use Rattle.atomic_table.proofs.Lists.{at_set, set_here, set_else, at_longer, at_last}
use Rattle.shared_words.specs.declared.view.Role.{Role}
use Rattle.shared_words.specs.declared.view.Role.TheVariants.{Driver, Device}
use Rattle.shared_words.specs.declared.view.HalfView.{HalfView}
use Rattle.shared_words.specs.declared.view.View.{View}
use Rattle.shared_words.specs.declared.view.View.TheVariants.{Opening, Whole, Live, Note, Told, Spent}
use Rattle.shared_words.specs.Entry.{IsPrefix}
use Rattle.shared_words.specs.Way.{other}
use Rattle.shared_words.specs.Views.{IsNoteOf, of_role, IsLiveFor, Knows, ViewsHold}
use Rattle.shared_words.proofs.WayLemmas.{at_end, at_short}

pub prefix-refl : {A : Type 0} (xs : List A) → IsPrefix xs xs
prefix-refl xs = ([], sym (append-nil xs))

pub prefix-trans : {A : Type 0} (xs ys zs : List A) → IsPrefix xs ys → IsPrefix ys zs → IsPrefix xs zs
prefix-trans {A} xs ys zs a b = (a.0 ++ b.0, b.1 ∙ (ap (λ (l : List A). l ++ b.0) a.1 ∙ append_assoc xs a.0 b.0))

-- no list is shorter, and no less is shown
abbrev pub Grows : HalfView → HalfView → Type 0
Grows v w = IsPrefix v.written w.written × IsPrefix v.taken w.taken × IsPrefix v.looks w.looks × (v.shown ≤ w.shown)

pub note_grows : (note v w : HalfView) → IsNoteOf note v → Grows v w → IsNoteOf note w
note_grows note v w k g = record {
  written = prefix-trans note.written v.written w.written k.written g.0;
  taken = prefix-trans note.taken v.taken w.taken k.taken g.1;
  looks = prefix-trans note.looks v.looks w.looks k.looks g.2;
  shown = le_trans k.shown g.3;
}

pub same_role : (q r : Role) → (q ≡ r) ⊎ (q ≢ r)
same_role Driver Driver = inl refl
same_role Driver Device = inr (λ e. cc)
same_role Device Driver = inr (λ e. cc)
same_role Device Device = inl refl

pub one_of : (role : Role) (P : Role → Type 0) → P Driver → P Device → P role
one_of Driver P a b = a
one_of Device P a b = b

-- The views after a step of the half `role`, whose view was v and is w
module _ (half half' : Role → HalfView) (seat_of : Role → ℕ) (views : List View) (h : ViewsHold half seat_of views) (role : Role) (id : ℕ) (v w : HalfView)
    (at : get_elem? views id ≡ some (Live role v)) (grows : Grows v w) (mine : half' role ≡ w) (others : (q : Role) → q ≢ role → half' q ≡ half q) where
  pub my_view : v ≡ half role
  my_view = (h.each id (Live role v) at).0

  pub my_seat : id ≡ seat_of role
  my_seat = (h.each id (Live role v) at).1

  note_stays : (q : Role) (note : HalfView) → IsNoteOf note (half q) → IsNoteOf note (half' q)
  note_stays q note k = ⊎_elim
      (λ (e : q ≡ role). subst (IsNoteOf note) (sym mine ∙ ap half' (sym e)) (note_grows note v w (subst (IsNoteOf note) (ap half e ∙ sym my_view) k) grows))
      (λ (n : q ≢ role). subst (IsNoteOf note) (sym (others q n)) k) (same_role q role)

  knows_still : (j : ℕ) → j ≢ id → (u : View) → Knows half seat_of j u → Knows half' seat_of j u
  knows_still j ne (Opening n) k = k
  knows_still j ne (Whole d e) k = absurd (ne (one_of role (λ (q : Role). j ≡ seat_of q) k.2 k.3 ∙ sym my_seat))
  knows_still j ne (Live q u) k = ⊎_elim (λ (e : q ≡ role). absurd (ne (k.1 ∙ (ap seat_of e ∙ sym my_seat)))) (λ (n : q ≢ role). (k.0 ∙ sym (others q n), k.1)) (same_role q role)
  knows_still j ne (Note q u) k = note_stays q u k
  knows_still j ne (Told q u n) k = ⊎_elim (λ (e : q ≡ role). absurd (ne (k.2 ∙ (ap seat_of e ∙ sym my_seat)))) (λ (m : q ≢ role). (k.0 ∙ sym (others q m), note_stays (other q) n k.1, k.2)) (same_role q role)
  knows_still j ne Spent k = tt

  -- the other half's live view stays
  live_still : (q : Role) → q ≢ role → (u : View) → get_elem? views (seat_of q) ≡ some u → IsLiveFor q u → get_elem? (set views id (Live role w)) (seat_of q) ≡ some u
  live_still q ne u atq live = set_else views id (seat_of q) (Live role w)
      (λ e. let same : u ≡ Live role v = some-injective u (Live role v) (sym atq ∙ (ap (get_elem? views) e ∙ at)) in let r : role ≡ q = subst (IsLiveFor q) same live in ne (sym r)) ∙ atq

  pub views_step : ViewsHold half' seat_of (set views id (Live role w))
  views_step = record {
    live = λ q. ⊎_elim
        (λ (e : q ≡ role). (Live role w, ap (get_elem? (set views id (Live role w))) (ap seat_of e ∙ sym my_seat) ∙ set_here views id (Live role w) (at_short views id (Live role v) at), sym e))
        (λ (n : q ≢ role). let l = h.live q in (l.0, live_still q n l.0 l.1 l.2, l.2)) (same_role q role);
    each = λ j u atj. ⊎_elim
        (λ (t : (j ≡ id) × (Live role w ≡ u)). subst (Knows half' seat_of j) t.1 (sym mine, t.0 ∙ my_seat))
        (λ (t : (j ≢ id) × (get_elem? views j ≡ some u)). knows_still j t.0 u (h.each j u t.1))
        (at_set views id j (Live role w) u atj);
  }

-- the halves part
module _ (half : Role → HalfView) (seat_of : Role → ℕ) (views : List View) (h : ViewsHold half seat_of views) (id : ℕ) (d e : HalfView) (at : get_elem? views id ≡ some (Whole d e)) where
  known : (d ≡ half Driver) × (e ≡ half Device) × (id ≡ seat_of Driver) × (id ≡ seat_of Device)
  known = h.each id (Whole d e) at

  knows_apart : (c j : ℕ) → j ≢ id → (u : View) → Knows half seat_of j u → Knows half (of_role id c) j u
  knows_apart c j ne (Opening n) k = k
  knows_apart c j ne (Whole a b) k = absurd (ne (k.2 ∙ sym known.2))
  knows_apart c j ne (Live q a) k = absurd (ne (k.1 ∙ one_of q (λ (r : Role). seat_of r ≡ id) (sym known.2) (sym known.3)))
  knows_apart c j ne (Note q a) k = k
  knows_apart c j ne (Told q a n) k = absurd (ne (k.2 ∙ one_of q (λ (r : Role). seat_of r ≡ id) (sym known.2) (sym known.3)))
  knows_apart c j ne Spent k = tt

  pub views_part : ViewsHold half (of_role id (length (set views id (Live Driver d)))) (set views id (Live Driver d) ++ Live Device e ∷ [])
  views_part = let vs : List View = set views id (Live Driver d) in let c : ℕ = length vs in record {
    live = λ q. one_of q (λ (r : Role). (u : View) × (get_elem? (vs ++ Live Device e ∷ []) (of_role id c r) ≡ some u) × IsLiveFor r u)
        (Live Driver d, at_longer vs (Live Device e ∷ []) id (Live Driver d) (set_here views id (Live Driver d) (at_short views id (Whole d e) at)), refl)
        (Live Device e, at_last vs (Live Device e) c refl, refl);
    each = λ j u atj. ⊎_elim
        (λ (old : get_elem? vs j ≡ some u). ⊎_elim
        (λ (t : (j ≡ id) × (Live Driver d ≡ u)). subst (Knows half (of_role id c) j) t.1 (known.0, t.0))
        (λ (t : (j ≢ id) × (get_elem? views j ≡ some u)). knows_apart c j t.0 u (h.each j u t.1))
        (at_set views id j (Live Driver d) u old))
        (λ (t : (j ≡ c) × (Live Device e ≡ u)). subst (Knows half (of_role id c) j) t.1 (known.1, t.0))
        (at_end vs (Live Device e) j u atj);
  }

-- the device's view passes to a new seat
module _ (half : Role → HalfView) (sd se : ℕ) (views : List View) (h : ViewsHold half (of_role sd se) views) (id : ℕ) (e : HalfView) (at : get_elem? views id ≡ some (Live Device e)) where
  passing : (e ≡ half Device) × (id ≡ se)
  passing = h.each id (Live Device e) at

  knows_passed : (c j : ℕ) → j ≢ id → (u : View) → Knows half (of_role sd se) j u → Knows half (of_role sd c) j u
  knows_passed c j ne (Opening n) k = k
  knows_passed c j ne (Whole a b) k = absurd (ne (k.3 ∙ sym passing.1))
  knows_passed c j ne (Live Driver a) k = k
  knows_passed c j ne (Live Device a) k = absurd (ne (k.1 ∙ sym passing.1))
  knows_passed c j ne (Note q a) k = k
  knows_passed c j ne (Told Driver a n) k = k
  knows_passed c j ne (Told Device a n) k = absurd (ne (k.2 ∙ sym passing.1))
  knows_passed c j ne Spent k = tt

  driver_apart : (u : View) → get_elem? views sd ≡ some u → IsLiveFor Driver u → sd ≢ id
  driver_apart u atd live q = let same : u ≡ Live Device e = some-injective u (Live Device e) (sym atd ∙ (ap (get_elem? views) q ∙ at)) in let r : Device ≡ Driver = subst (IsLiveFor Driver) same live in cc

  pub views_pass : ViewsHold half (of_role sd (length (set views id Spent))) (set views id Spent ++ Live Device e ∷ [])
  views_pass = let vs : List View = set views id Spent in let c : ℕ = length vs in let l = h.live Driver in record {
    live = λ q. one_of q (λ (r : Role). (u : View) × (get_elem? (vs ++ Live Device e ∷ []) (of_role sd c r) ≡ some u) × IsLiveFor r u)
        (l.0, at_longer vs (Live Device e ∷ []) sd l.0 (set_else views id sd Spent (driver_apart l.0 l.1 l.2) ∙ l.1), l.2)
        (Live Device e, at_last vs (Live Device e) c refl, refl);
    each = λ j u atj. ⊎_elim
        (λ (old : get_elem? vs j ≡ some u). ⊎_elim
        (λ (t : (j ≡ id) × (Spent ≡ u)). subst (Knows half (of_role sd c) j) t.1 tt)
        (λ (t : (j ≢ id) × (get_elem? views j ≡ some u)). knows_passed c j t.0 u (h.each j u t.1))
        (at_set views id j Spent u old))
        (λ (t : (j ≡ c) × (Live Device e ≡ u)). subst (Knows half (of_role sd c) j) t.1 (passing.0, t.0))
        (at_end vs (Live Device e) j u atj);
  }

-- the halves are one
module _ (half : Role → HalfView) (sd se : ℕ) (views : List View) (h : ViewsHold half (of_role sd se) views) (id other_id : ℕ) (d e : HalfView)
    (at : get_elem? views id ≡ some (Live Driver d)) (at' : get_elem? views other_id ≡ some (Live Device e)) (ne : other_id ≢ id) where
  mine : (d ≡ half Driver) × (id ≡ sd)
  mine = h.each id (Live Driver d) at

  yours : (e ≡ half Device) × (other_id ≡ se)
  yours = h.each other_id (Live Device e) at'

  knows_united : (j : ℕ) → j ≢ id → j ≢ other_id → (u : View) → Knows half (of_role sd se) j u → Knows half (of_role id id) j u
  knows_united j na nb (Opening n) k = k
  knows_united j na nb (Whole a b) k = absurd (na (k.2 ∙ sym mine.1))
  knows_united j na nb (Live Driver a) k = absurd (na (k.1 ∙ sym mine.1))
  knows_united j na nb (Live Device a) k = absurd (nb (k.1 ∙ sym yours.1))
  knows_united j na nb (Note q a) k = k
  knows_united j na nb (Told Driver a n) k = absurd (na (k.2 ∙ sym mine.1))
  knows_united j na nb (Told Device a n) k = absurd (nb (k.2 ∙ sym yours.1))
  knows_united j na nb Spent k = tt

  pub views_unite : ViewsHold half (of_role id id) (set (set views id (Whole d e)) other_id Spent)
  views_unite = let vs : List View = set views id (Whole d e) in
      let here : get_elem? (set vs other_id Spent) id ≡ some (Whole d e) = set_else vs other_id id Spent (λ q. ne (sym q)) ∙ set_here views id (Whole d e) (at_short views id (Live Driver d) at) in record {
        live = λ q. one_of q (λ (r : Role). (u : View) × (get_elem? (set vs other_id Spent) (of_role id id r) ≡ some u) × IsLiveFor r u) (Whole d e, here, tt) (Whole d e, here, tt);
        each = λ j u atj. ⊎_elim
            (λ (t : (j ≡ other_id) × (Spent ≡ u)). subst (Knows half (of_role id id) j) t.1 tt)
            (λ (t : (j ≢ other_id) × (get_elem? vs j ≡ some u)). ⊎_elim
            (λ (o : (j ≡ id) × (Whole d e ≡ u)). subst (Knows half (of_role id id) j) o.1 (mine.0, yours.0, o.0, o.0))
            (λ (o : (j ≢ id) × (get_elem? views j ≡ some u)). knows_united j o.0 t.0 u (h.each j u o.1))
            (at_set views id j (Whole d e) u t.1))
            (at_set vs other_id j Spent u atj);
      }
