-- The end of a ring: the halves are one again, and the table is closed.
use Rattle.std.proofs.Common.{◌≡◌, ◌≢◌, ◌⊎◌, ℕ, zero, suc, ◌+◌, ◌-◌, ◌*◌, ◌%◌, ◌<◌, ◌≤◌, List, [], ◌∷◌, ◌++◌, length, set, get_or, sym, refl, ap, ◌∙◌, subst, inl, inr, ⊎_elim, arith, Option, Some, None, length-append}
use mathlib.Core.Option.{some, some-injective, some-ne-none}
use lib.ListN.{get_elem?}
use Rattle.atomic_table.specs.Table.{Splits, Joins, Final, Seen}
use Rattle.atomic_table.proofs.Lists.{set_else}
use Rattle.mc_base.specs.Stored.{Stored}
use Rattle.shared_words.specs.declared.rule.Shape.{Shape}
use Rattle.shared_words.specs.declared.field.Field.{Field}
use Rattle.shared_words.specs.declared.field.Field.TheVariants.{DescAddr, DescLen, DescFlags, DescNext, AvailFlags, AvailIdx, AvailRing, UsedFlags, UsedIdx, UsedId, UsedLen}
use Rattle.shared_words.specs.declared.view.Role.{Role}
use Rattle.shared_words.specs.declared.view.Role.TheVariants.{Driver, Device}
use Rattle.shared_words.specs.declared.view.Staged.{Staged}
use Rattle.shared_words.specs.declared.view.Staged.TheVariants.{Idle}
use Rattle.shared_words.specs.declared.view.HalfView.{HalfView}
use Rattle.shared_words.specs.declared.view.View.{View}
use Rattle.shared_words.specs.declared.view.View.TheVariants.{Opening, Whole, Live, Spent}
use Rattle.shared_words.specs.Layout.{HasPlace, field_at}
use Rattle.shared_words.specs.Entry.{Entry, number_of}
use Rattle.shared_words.specs.Way.{way_of, Homes}
use Rattle.shared_words.specs.LastEntries.{HasNumber, HasLength}
use Rattle.shared_words.specs.Views.{of_role}
use Rattle.shared_words.specs.RingRule.{OneWay, Content, RingRule}
use Rattle.shared_words.specs.Parting.{left_behind, passed, united}
use Rattle.shared_words.specs.Closed.{field_value, IsClosed}
use Rattle.shared_words.proofs.Steps.{running}
use Rattle.shared_words.proofs.ViewLemmas.{views_pass, views_unite}

not_opening : (v : View) (role : Role) (x : HalfView) → v ≡ Live role x → (m : ℕ) → v ≢ Opening m
not_opening v role x is m e = let q : Opening m ≡ Live role x = sym e ∙ is in cc

pub splits_pass : (key : Shape) (id : ℕ) (v : View) (e : HalfView) → v ≡ Live Device e → Splits (RingRule key) id v (left_behind v) (passed v)
splits_pass key id v e is s holds at = let r = running key s id v holds at (not_opening v Device e is) in inr record {
  driver = r.driver;
  device = r.device;
  driver_seat = r.driver_seat;
  device_seat = length (set s.views id Spent);
  views = subst (λ (x : View). Rattle.shared_words.specs.Views.ViewsHold (of_role r.driver r.device) (of_role r.driver_seat (length (set s.views id Spent))) (set s.views id Spent ++ x ∷ [])) (sym is)
      (views_pass (of_role r.driver r.device) r.driver_seat r.device_seat s.views r.views id e (at ∙ ap some is));
  content = r.content;
}

pub joins_unite : (key : Shape) (id other_id : ℕ) (v w : View) (d e : HalfView) → v ≡ Live Driver d → w ≡ Live Device e → Joins (RingRule key) id v other_id w (united v w) Spent
joins_unite key id other_id v w d e vis wis s holds at ne at' = let r = running key s id v holds at (not_opening v Driver d vis) in
    let there : get_elem? s.views other_id ≡ some w = sym (set_else s.views id other_id (united v w) ne) ∙ at' in
    let whole : united v w ≡ Whole d e = λ i. united (vis i) (wis i) in inr record {
      driver = r.driver;
      device = r.device;
      driver_seat = id;
      device_seat = id;
      views = subst (λ (x : View). Rattle.shared_words.specs.Views.ViewsHold (of_role r.driver r.device) (of_role id id) (set (set s.views id x) other_id Spent)) (sym whole)
          (views_unite (of_role r.driver r.device) r.driver_seat r.device_seat s.views r.views id other_id d e (at ∙ ap some vis) (there ∙ ap some wis) ne);
      content = r.content;
    }

none_stored : (st : Staged) → st ≡ Idle → HasNumber st → ⊥
none_stored st is h = subst HasNumber is h

no_length_stored : (st : Staged) → st ≡ Idle → (id : ℕ) → HasLength st id → ⊥
no_length_stored st is id h = subst (λ (s : Staged). HasLength s id) is h

module _ (key : Shape) (words : List ℕ) (homes : Homes) (d e : HalfView) (c : Content key words homes d e) (d_idle : d.staged ≡ Idle) (e_idle : e.staged ≡ Idle) where
  final_at : (f : Field) → HasPlace key.size f → field_at words key.size f ≡ field_value key d.written e.written f
  final_at (DescAddr i) l = c.constants.addr i l
  final_at (DescLen i) l = c.offers.last_entries.lens i l (λ id h. absurd (no_length_stored d.staged d_idle id h))
  final_at (DescFlags i) l = c.constants.flags i l
  final_at (DescNext i) l = c.constants.next i l
  final_at AvailFlags l = c.constants.avail_flags
  final_at AvailIdx l = c.offers.entries.idx
  final_at (AvailRing p) l = c.offers.last_entries.numbers p l (λ h. absurd (none_stored d.staged d_idle h))
  final_at UsedFlags l = c.constants.used_flags
  final_at UsedIdx l = c.returns.entries.idx
  final_at (UsedId p) l = c.returns.last_entries.numbers p l (λ h. absurd (none_stored e.staged e_idle h))
  final_at (UsedLen p) l = c.returns.last_entries.lens p l (λ id h. absurd (no_length_stored e.staged e_idle id h))

at_after : {A : Type 0} (xs ys : List A) (n : ℕ) → get_elem? (xs ++ ys) (length xs + n) ≡ get_elem? ys n
at_after {A} [] ys n = ap (get_elem? ys) (let h : 0 + n ≡ n = omega arith in h)
at_after {A} (x ∷ xs) ys n = ap (get_elem? (x ∷ (xs ++ ys))) (let h : length (x ∷ xs) + n ≡ suc (length xs + n) = omega arith in h) ∙ at_after xs ys n

left_home : (role : Role) (key : Shape) (words : List ℕ) (homes : Homes) (w t : HalfView) (o : OneWay role key words homes w t) (home : List (Option Stored)) → ((k : ℕ) (y : Option Stored) → get_elem? homes k ≡ some (some y) → get_elem? home k ≡ some y)
    → (n : ℕ) (e : Entry) → get_elem? o.entries.left n ≡ some e → get_elem? home (number_of e) ≡ some (Some e.0)
left_home role key words homes w t o home known n e at = known (number_of e) (Some e.0) (o.entries.standing (length t.taken + n) e (omega arith) (ap (λ (l : List Entry). get_elem? l (length t.taken + n)) o.entries.in_order ∙ (at_after t.taken o.entries.left n ∙ at))).slot

left_stands : (role : Role) (key : Shape) (words : List ℕ) (homes : Homes) (w t : HalfView) (o : OneWay role key words homes w t) (n : ℕ) (e : Entry) → get_elem? o.entries.left n ≡ some e
    → get_or words ((way_of role key.size).number ((length t.taken + n) % key.size)) 0 ≡ number_of e
left_stands role key words homes w t o n e at = (o.entries.standing (length t.taken + n) e (omega arith) (ap (λ (l : List Entry). get_elem? l (length t.taken + n)) o.entries.in_order ∙ (at_after t.taken o.entries.left n ∙ at))).number

pub closes : (key : Shape) (id : ℕ) (v w : View) (d e : HalfView) (words : List ℕ) (home : List (Option Stored)) → v ≡ Live Driver d → w ≡ Live Device e → d.staged ≡ Idle → e.staged ≡ Idle → Final (Seen (RingRule key) id (united v w)) words home → IsClosed key d e words home
closes key id v w d e words home vis wis d_idle e_idle (s, (holds, at), is, long, known) =
    let whole : united v w ≡ Whole d e = λ i. united (vis i) (wis i) in
    let r = running key s id (united v w) holds at (λ m q. let bad : Opening m ≡ Whole d e = sym q ∙ whole in cc) in
    let k = r.views.each id (Whole d e) (at ∙ ap some whole) in
    let c : Content key words s.homes d e = subst (λ (x : HalfView × HalfView × List ℕ). Content key x.2 s.homes x.0 x.1) (λ i. (sym k.0 i, sym k.1 i, is i)) r.content in record {
      offered_left = c.offers.entries.left;
      returned_left = c.returns.entries.left;
      offered = c.offers.entries.in_order;
      returned = c.returns.entries.in_order;
      device_shown = c.offers.entries.written_first;
      driver_shown = c.returns.entries.written_first;
      each_once = c.each_once;
      all_words = record { count = c.word_count; each = final_at key words s.homes d e c d_idle e_idle };
      offered_stand = left_stands Driver key words s.homes d e c.offers;
      returned_stand = left_stands Device key words s.homes e d c.returns;
      offered_in_range = c.offers.in_range;
      returned_in_range = c.returns.in_range;
      slot_count = sym long ∙ c.slot_count;
      offered_home = left_home Driver key words s.homes d e c.offers home known;
      returned_home = left_home Device key words s.homes e d c.returns home known;
    }

-- one more of a list
pub take-next : {A : Type 0} (xs : List A) (i : ℕ) (x : A) → get_elem? xs i ≡ some x → Rattle.std.proofs.Common.take (i + 1) xs ≡ Rattle.std.proofs.Common.take i xs ++ x ∷ []
take-next {A} xs i x at = ap (λ (n : ℕ). Rattle.std.proofs.Common.take n xs) (Rattle.std.proofs.Common.add-one i) ∙ next xs i at
  where
    next : (ys : List A) (n : ℕ) → get_elem? ys n ≡ some x → Rattle.std.proofs.Common.take (suc n) ys ≡ Rattle.std.proofs.Common.take n ys ++ x ∷ []
    next [] n e = absurd (some-ne-none x (sym e))
    next (y ∷ ys) zero e = λ k. some-injective y x e k ∷ []
    next (y ∷ ys) (suc n) e = ap (λ (l : List A). y ∷ l) (next ys n e)
