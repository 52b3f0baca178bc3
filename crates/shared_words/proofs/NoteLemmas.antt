-- A note parts from one half, and the other takes it in.
use Rattle.std.proofs.Common.{◌≡◌, ◌≢◌, ℕ, ◌≤◌, List, [], ◌∷◌, ◌++◌, length, set, sym, refl, ap, ◌∙◌, subst, inr, ⊎_elim, arith, le_refl, le_trans, length-append}
use mathlib.Core.Option.{none, some, some-injective}
use mathlib.Core.Logic.{dite}
use native.Mathlib.Decide.{ℕ_discrete}
use lib.ListN.{get_elem?}
use lib.Seq.{set-get_or, set-set}
use Rattle.atomic_table.specs.Table.{step, keeps, Allows, Splits, Joins}
use Rattle.atomic_table.proofs.Lists.{at_set, set_here, set_else, set_again, at_longer}
use Rattle.shared_words.specs.declared.rule.Shape.{Shape}
use Rattle.shared_words.specs.declared.view.Role.{Role}
use Rattle.shared_words.specs.declared.view.Role.TheVariants.{Driver, Device}
use Rattle.shared_words.specs.declared.view.HalfView.{HalfView}
use Rattle.shared_words.specs.declared.view.View.{View}
use Rattle.shared_words.specs.declared.view.View.TheVariants.{Opening, Live, Note, Told, Spent}
use Rattle.shared_words.specs.Entry.{IsPrefix}
use Rattle.shared_words.specs.Way.{other}
use Rattle.shared_words.specs.Views.{IsNoteOf, of_role, IsLiveFor, Knows, ViewsHold}
use Rattle.shared_words.specs.RingRule.{RingState, Running, RingRule}
use Rattle.shared_words.specs.Kinds.{Seated}
use Rattle.shared_words.specs.Slots.{Slot}
use Rattle.shared_words.specs.HalfHolds.{HalfHolds}
use Rattle.shared_words.specs.Notes.{kept_view, note_of, with_note, showing_all, NoteFits, note_read}
use Rattle.shared_words.proofs.WayLemmas.{at_end, at_short}
use Rattle.shared_words.proofs.ViewLemmas.{prefix-refl, prefix-trans}
use Rattle.shared_words.proofs.Sides.{Sides, driver_side, device_side, your_fit, your_count, show_keeps}
use Rattle.shared_words.proofs.Steps.{running, found}

-- a seat's view changes, and what the seat knows stays
views_change : (half : Role → HalfView) (seat_of : Role → ℕ) (views : List View) (id : ℕ) (u w : View) → ViewsHold half seat_of views → get_elem? views id ≡ some u → Knows half seat_of id w → ((q : Role) → IsLiveFor q u → IsLiveFor q w)
    → ViewsHold half seat_of (set views id w)
views_change half seat_of views id u w h at knows live = record {
  live = λ q. let l = h.live q in dite (ℕ_discrete (seat_of q) id)
      (λ (e : seat_of q ≡ id). let same : l.0 ≡ u = some-injective l.0 u (sym l.1 ∙ (ap (get_elem? views) e ∙ at)) in
      (w, ap (get_elem? (set views id w)) e ∙ set_here views id w (at_short views id u at), live q (subst (IsLiveFor q) same l.2)))
      (λ n. (l.0, set_else views id (seat_of q) w n ∙ l.1, l.2));
  each = λ j x atj. ⊎_elim
      (λ (t : (j ≡ id) × (w ≡ x)). subst (Knows half seat_of j) t.1 (subst (λ (m : ℕ). Knows half seat_of m w) (sym t.0) knows))
      (λ (t : (j ≢ id) × (get_elem? views j ≡ some x)). h.each j x t.1)
      (at_set views id j w x atj);
}

views_more : (half : Role → HalfView) (seat_of : Role → ℕ) (views : List View) (w : View) → ViewsHold half seat_of views → Knows half seat_of (length views) w → ViewsHold half seat_of (views ++ w ∷ [])
views_more half seat_of views w h knows = record {
  live = λ q. let l = h.live q in (l.0, at_longer views (w ∷ []) (seat_of q) l.0 l.1, l.2);
  each = λ j x atj. ⊎_elim (λ (e : get_elem? views j ≡ some x). h.each j x e)
      (λ (t : (j ≡ length views) × (w ≡ x)). subst (Knows half seat_of j) t.1 (subst (λ (m : ℕ). Knows half seat_of m w) (sym t.0) knows))
      (at_end views w j x atj);
}

rule_change : (key : Shape) (s : RingState) (id : ℕ) (u w : View) → RingRule key s → get_elem? s.views id ≡ some u → ((m : ℕ) → u ≢ Opening m) → ((half : Role → HalfView) (seat_of : Role → ℕ) → ViewsHold half seat_of s.views → Knows half seat_of id w)
    → ((q : Role) → IsLiveFor q u → IsLiveFor q w) → RingRule key record { words = s.words; homes = s.homes; views = set s.views id w }
rule_change key s id u w holds at ne knows live = let r = running key s id u holds at ne in let half = of_role r.driver r.device in let seat_of = of_role r.driver_seat r.device_seat in inr record {
  driver = r.driver;
  device = r.device;
  driver_seat = r.driver_seat;
  device_seat = r.device_seat;
  views = views_change half seat_of s.views id u w r.views at (knows half seat_of r.views) live;
  content = r.content;
}

note_self : (v : HalfView) → IsNoteOf v v
note_self v = record { written = prefix-refl v.written; taken = prefix-refl v.taken; looks = prefix-refl v.looks; shown = le_refl v.shown }

live_not_opening : (role : Role) (v : HalfView) (m : ℕ) → Live role v ≢ Opening m
live_not_opening role v m e = cc

pub splits_note : (key : Shape) (id : ℕ) (u : View) (role : Role) (v : HalfView) → u ≡ Live role v → Splits (RingRule key) id u (kept_view u) (note_of u)
splits_note key id u role v is s holds at = let at' : get_elem? s.views id ≡ some (Live role v) = at ∙ ap some is in let r = running key s id (Live role v) holds at' (live_not_opening role v) in
    let half = of_role r.driver r.device in let seat_of = of_role r.driver_seat r.device_seat in let k = r.views.each id (Live role v) at' in inr record {
      driver = r.driver;
      device = r.device;
      driver_seat = r.driver_seat;
      device_seat = r.device_seat;
      views = subst (λ (x : List View × View). ViewsHold half seat_of (x.0 ++ note_of x.1 ∷ [])) (λ i. (sym (set_again s.views id u at) i, sym is i))
          (views_more half seat_of s.views (Note role v) r.views (subst (IsNoteOf v) k.0 (note_self v)));
      content = r.content;
    }

prefix_length : {A : Type 0} (xs ys : List A) → IsPrefix xs ys → length xs ≤ length ys
prefix_length {A} xs ys p = let e = ap (λ (l : List A). length l) p.1 in let l = length-append xs p.0 in omega (arith, e, l)

note_length : (n v : HalfView) → IsNoteOf n v → length n.written ≤ length v.written
note_length n v k = prefix_length n.written v.written k.written

-- the facts of a half that has a note of the other, from its side
module _ (role : Role) (key : Shape) (s : RingState) (mine yours n : HalfView) (side : Sides role key s.words s.homes mine yours) (k : IsNoteOf n yours) where
  side_facts : NoteFits role key.size n mine
  side_facts = record {
    taken = prefix-trans n.taken yours.taken mine.written k.taken (side.my_way.entries.left, side.my_way.entries.in_order);
    shown = le_trans k.shown side.my_way.entries.written_first;
    fits = let l = note_length n yours k in let f = your_fit role key s.words s.homes mine yours side in omega (arith, l, f);
    room = let l = note_length n yours k in let f = your_count role key s.words s.homes mine yours side in omega (arith, l, f);
  }

facts : (key : Shape) (s : RingState) (r : Running key s) (role : Role) (v n : HalfView) → v ≡ of_role r.driver r.device role → IsNoteOf n (of_role r.driver r.device (other role)) → NoteFits role key.size n v
facts key s r Driver v n is k = subst (NoteFits Driver key.size n) (sym is) (side_facts Driver key s r.driver r.device n (driver_side key s.words s.homes r.driver r.device r.content) k)
facts key s r Device v n is k = subst (NoteFits Device key.size n) (sym is) (side_facts Device key s r.device r.driver n (device_side key s.words s.homes r.driver r.device r.content) k)

told-not-opening : (role : Role) (v n : HalfView) (m : ℕ) → Told role v n ≢ Opening m
told-not-opening role v n m e = cc

pub allows_note_read : (key : Shape) (slots id : ℕ) (me : Seated) (role : Role) (v n : HalfView) → me.0 ≡ Told role v n → slots ≡ key.size → Allows (RingRule key) slots id me 0 (λ x. x) (note_read (step slots 0 0 0 none) me)
allows_note_read key slots id me role v n is sized s holds deep at _ =
    let at' : get_elem? s.views id ≡ some (Told role v n) = at ∙ ap some is in let r = running key s id (Told role v n) holds at' (told-not-opening role v n) in let k = r.views.each id (Told role v n) at' in (
      Live role v,
      keeps,
      tt,
      subst (λ (ws : List ℕ). RingRule key record { words = ws; homes = s.homes; views = set s.views id (Live role v) }) (sym (set-get_or s.words 0 0))
          (rule_change key s id (Told role v n) (Live role v) holds at' (told-not-opening role v n) (λ half seat_of h. let q = h.each id (Told role v n) at' in (q.0, q.2)) (λ q l. l)),
      λ role' v' n' is'. let same : Told role v n ≡ Told role' v' n' = sym is ∙ is' in let sr : role ≡ role' = cc in let sv : v ≡ v' = cc in let sn : n ≡ n' = cc in
          ((λ i. Live (sr i) (sv i)), refl, subst (λ (x : Role × ℕ × HalfView × HalfView). NoteFits x.0 x.1 x.2 x.3) (λ i. (sr i, sym sized i, sn i, sv i)) (facts key s r role v n k.0 k.1)),
    )

-- what one half wrote as far as a note tells it, and what was shown to the other
shown_grows : (v n : HalfView) → v.shown ≤ (showing_all n v).shown
shown_grows v n = omega arith

note_not_opening : (role : Role) (n : HalfView) (m : ℕ) → Note role n ≢ Opening m
note_not_opening role n m e = cc

pub joins_note : (key : Shape) (id other_id : ℕ) (u w : View) (role : Role) (v n : HalfView) → u ≡ Live role v → w ≡ Note (other role) n → Joins (RingRule key) id u other_id w (with_note u w) Spent
joins_note key id other_id u w role v n uis wis s holds at ne at' =
    let f = found role key s id v u holds at uis in
    let v' : HalfView = showing_all n v in
    let there : get_elem? s.views other_id ≡ some (Note (other role) n) = sym (set_else s.views id other_id (with_note u w) ne) ∙ (at' ∙ ap some wis) in
    let here : get_elem? s.views id ≡ some (Live role v) = at ∙ ap some uis in
    let high = prefix_length n.written f.yours.written (f.notes other_id n there).written in
    let most = f.sides.your_way.entries.written_first in
    let kept = show_keeps role key s.words s.homes v f.yours f.sides v'.shown v.looks (shown_grows v n) (omega (arith, most, high)) in
    let one : RingRule key record { words = s.words; homes = s.homes; views = set s.views id (Live role v') } = f.keeps s.words s.homes v' (prefix-refl v.written, prefix-refl v.taken, prefix-refl v.looks, shown_grows v n) kept in
    let s1 : RingState = record { words = s.words; homes = s.homes; views = set s.views id (Live role v') } in
    let at1 : get_elem? s1.views id ≡ some (Live role v') = set_here s.views id (Live role v') (at_short s.views id (Live role v) here) in
    let there1 : get_elem? s1.views other_id ≡ some (Note (other role) n) = set_else s.views id other_id (Live role v') ne ∙ there in
    let two : RingRule key record { words = s.words; homes = s.homes; views = set s1.views id (Told role v' n) } = rule_change key s1 id (Live role v') (Told role v' n) one at1 (live_not_opening role v')
    (λ half seat_of h. let k = h.each id (Live role v') at1 in let q = h.each other_id (Note (other role) n) there1 in (k.0, q, k.1)) (λ q l. l) in
    let s2 : RingState = record { words = s.words; homes = s.homes; views = set s1.views id (Told role v' n) } in
    let there2 : get_elem? s2.views other_id ≡ some (Note (other role) n) = set_else s1.views id other_id (Told role v' n) ne ∙ there1 in
    let three : RingRule key record { words = s.words; homes = s.homes; views = set s2.views other_id Spent } = rule_change key s2 other_id (Note (other role) n) Spent two there2 (note_not_opening (other role) n) (λ half seat_of h. tt) (λ q l. absurd l) in
    subst (λ (x : List View). RingRule key record { words = s.words; homes = s.homes; views = set x other_id Spent })
    (set-set s.views id (Live role v') (Told role v' n) ∙ (λ i. set s.views id (with_note (sym uis i) (sym wis i)))) three

pub other-other : (q r : Role) → q ≡ other r → r ≡ other q
other-other Driver Device e = refl
other-other Device Driver e = refl
other-other Driver Driver e = let bad : Driver ≡ Device = e in cc
other-other Device Device e = let bad : Device ≡ Driver = e in cc

pub half_showing_all : (z : ℕ) (role : Role) (v n : HalfView) (slots : List Slot) (a b c : ℕ) → HalfHolds z role v slots a b c → HalfHolds z role (showing_all n v) slots a b c
half_showing_all z role v n slots a b c h = record { written_count = h.written_count; taken_count = h.taken_count; number_read = h.number_read; carries = h.carries; once = h.once; front = h.front }
