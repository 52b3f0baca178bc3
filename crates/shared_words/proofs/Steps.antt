-- Each step of a half keeps the rule, as the table asks for it.
use Rattle.std.proofs.Common.{◌≡◌, ◌≢◌, ℕ, zero, suc, ◌+◌, ◌-◌, ◌*◌, ◌%◌, ◌<◌, ◌≤◌, List, [], ◌∷◌, ◌++◌, length, set, get_or, sym, refl, ap, ◌∙◌, subst, inl, inr, arith, Option, Some, le_refl, mod-lt}
use mathlib.Core.Option.{none, some, some-injective, some-ne-none}
use lib.ListN.{get_elem?}
use lib.Seq.{set-get_or}
use Rattle.atomic_table.specs.Table.{step, keeps, takes, gives, stepped, Act, Valid, carried_after, Allows, rest}
use Rattle.mc_base.specs.Stored.{Stored}
use Rattle.shared_words.specs.declared.rule.Shape.{Shape}
use Rattle.shared_words.specs.declared.view.Role.{Role}
use Rattle.shared_words.specs.declared.view.Role.TheVariants.{Driver, Device}
use Rattle.shared_words.specs.declared.view.Staged.{Staged}
use Rattle.shared_words.specs.declared.view.Staged.TheVariants.{Idle, LengthStored, NumberStored, BothStored, NumberRead}
use Rattle.shared_words.specs.declared.view.HalfView.{HalfView}
use Rattle.shared_words.specs.declared.view.View.{View}
use Rattle.shared_words.specs.declared.view.View.TheVariants.{Opening, Live, Note}
use Rattle.shared_words.specs.Layout.{word}
use Rattle.shared_words.specs.Entry.{Entry, number_of, times}
use Rattle.shared_words.specs.Way.{Way, way_of, other, Homes}
use Rattle.shared_words.specs.Places.{begins, starts_with, Holds}
use Rattle.shared_words.specs.Staging.{StagedHolds}
use Rattle.shared_words.specs.LastEntries.{HasNumber, HasLength}
use Rattle.shared_words.specs.Views.{of_role, IsNoteOf}
use Rattle.shared_words.specs.RingRule.{RingState, Running, RingRule}
use Rattle.shared_words.specs.Change.{staging, writing, looking, taking, ahead}
use Rattle.shared_words.specs.Slots.{Slot, fronted, carried_times, front_value}
use Rattle.shared_words.specs.HalfHolds.{HalfHolds}
use Rattle.shared_words.specs.Kinds.{Seated, desc_len_stored, avail_entry_stored, used_id_stored, used_len_stored, by_either, index_published, index_loaded, number_loaded, len_loaded}
use Rattle.shared_words.proofs.WayLemmas.{number_not_len, len_place_small, get_apart}
use Rattle.shared_words.proofs.Sides.{Sides, driver_side, device_side, driver_content, device_content, some_size, i_hold, your_left_small, left_not_mine, your_length, your_count, publish_keeps, look_is, show_keeps, read_keeps, next_is, take_keeps, count_keeps}
use Rattle.shared_words.proofs.Stores.{number_here, len_here, number_stored, length_stored, stored_here}
use Rattle.shared_words.proofs.ViewLemmas.{Grows, prefix-refl, views_step}
use Rattle.shared_words.proofs.Fronts.{front_act, front_carried, front_out}

only_opening : (n id : ℕ) (v : View) → ((m : ℕ) → v ≢ Opening m) → get_elem? (Opening n ∷ []) id ≡ some v → ⊥
only_opening n zero v ne at = ne n (sym (some-injective (Opening n) v at))
only_opening n (suc id) v ne at = some-ne-none v (sym at)

pub running : (key : Shape) (s : RingState) (id : ℕ) (v : View) → RingRule key s → get_elem? s.views id ≡ some v → ((m : ℕ) → v ≢ Opening m) → Running key s
running key s id v (inr r) at ne = r
running key s id v (inl f) at ne = absurd (only_opening key.length id v ne (subst (λ (vs : List View). get_elem? vs id ≡ some v) f.views at))

driver_only : (a b c : HalfView) (q : Role) → q ≢ Driver → of_role b c q ≡ of_role a c q
driver_only a b c Driver ne = absurd (ne refl)
driver_only a b c Device ne = refl

device_only : (a b c : HalfView) (q : Role) → q ≢ Device → of_role c b q ≡ of_role c a q
device_only a b c Driver ne = refl
device_only a b c Device ne = absurd (ne refl)

-- What a half finds at its step: the ring from its side, and the rule again after a step of its own
pub record Found (role : Role) (key : Shape) (s : RingState) (id : ℕ) (v : HalfView) : Type 0 where
  pub yours : HalfView
  pub sides : Sides role key s.words s.homes v yours
  pub notes : (j : ℕ) (n : HalfView) → get_elem? s.views j ≡ some (Note (other role) n) → IsNoteOf n yours
  pub keeps : (words' : List ℕ) (homes' : Homes) (w : HalfView) → Grows v w → Sides role key words' homes' (record w { steps = v.steps }) yours → RingRule key record { words = words'; homes = homes'; views = set s.views id (Live role w) }

pub found : (role : Role) (key : Shape) (s : RingState) (id : ℕ) (v : HalfView) (u : View) → RingRule key s → get_elem? s.views id ≡ some u → u ≡ Live role v → Found role key s id v
found Driver key s id v u holds at is = let r = running key s id u holds at (λ m e. let q : Opening m ≡ Live Driver v = sym e ∙ is in cc) in
    let at' : get_elem? s.views id ≡ some (Live Driver v) = at ∙ ap some is in let k = r.views.each id (Live Driver v) at' in record {
      yours = r.device;
      notes = λ j n atj. r.views.each j (Note Device n) atj;
      sides = subst (λ (x : HalfView). Sides Driver key s.words s.homes x r.device) (sym k.0) (driver_side key s.words s.homes r.driver r.device r.content);
      keeps = λ words' homes' w g b. inr record {
        driver = w;
        device = r.device;
        driver_seat = r.driver_seat;
        device_seat = r.device_seat;
        views = views_step (of_role r.driver r.device) (of_role w r.device) (of_role r.driver_seat r.device_seat) s.views r.views Driver id v w at' g refl (driver_only r.driver w r.device);
        content = driver_content key words' homes' w r.device (count_keeps Driver key words' homes' (record w { steps = v.steps }) r.device b w.steps);
      };
    }
found Device key s id v u holds at is = let r = running key s id u holds at (λ m e. let q : Opening m ≡ Live Device v = sym e ∙ is in cc) in
    let at' : get_elem? s.views id ≡ some (Live Device v) = at ∙ ap some is in let k = r.views.each id (Live Device v) at' in record {
      yours = r.driver;
      notes = λ j n atj. r.views.each j (Note Driver n) atj;
      sides = subst (λ (x : HalfView). Sides Device key s.words s.homes x r.driver) (sym k.0) (device_side key s.words s.homes r.driver r.device r.content);
      keeps = λ words' homes' w g b. inr record {
        driver = r.driver;
        device = w;
        driver_seat = r.driver_seat;
        device_seat = r.device_seat;
        views = views_step (of_role r.driver r.device) (of_role r.driver w) (of_role r.driver_seat r.device_seat) s.views r.views Device id v w at' g refl (device_only r.device w r.driver);
        content = device_content key words' homes' r.driver w (count_keeps Device key words' homes' (record w { steps = v.steps }) r.driver b w.steps);
      };
    }

-- only what is staged, or what is shown, changes
unmoved : (v : HalfView) → Grows v v
unmoved v = (prefix-refl v.written, prefix-refl v.taken, prefix-refl v.looks, le_refl v.shown)

same_live : (role : Role) (v v' : HalfView) (u : View) → u ≡ Live role v → u ≡ Live role v' → v ≡ v'
same_live role v v' u a b = let q : Live role v ≡ Live role v' = sym a ∙ b in cc

same_half : (role role' : Role) (v v' : HalfView) (u : View) → u ≡ Live role v → u ≡ Live role' v' → ◌≡◌ {A = Role × HalfView} (role, v) (role', v')
same_half role role' v v' u a b = let q : Live role v ≡ Live role' v' = sym a ∙ b in let r : role ≡ role' = cc in let w : v ≡ v' = cc in λ j. (r j, w j)

same_front : (b b' : Stored) (below below' : List Slot) → (b.number, Some b) ∷ below ≡ (b'.number, Some b') ∷ below' → b ≡ b'
same_front b b' below below' e = let value : Some b ≡ Some b' = ap front_value e in cc

module _ (role : Role) (key : Shape) (id : ℕ) (me : Seated) (v : HalfView) (a b c : ℕ) (h : HalfHolds key.size role v me.1 a b c) where
  -- the slots that the half carries are out
  carried_out : (homes : Homes) → ((x : ℕ) → Holds role key.size v x → get_elem? homes x ≡ some none) → (x : ℕ) → 0 < carried_times x me.1 → get_elem? homes x ≡ some none
  carried_out homes out x l = out x (let k = h.carries x in omega (arith, k, l))

  carried_once : (x : ℕ) → carried_times x me.1 ≤ 1
  carried_once x = let k = h.once x in let l = Rattle.shared_words.proofs.CountLemmas.inside-le key.size x in omega (arith, k, l)

  -- a store of a word, with the slot n brought to the front
  pub fronting : (n i r : ℕ) (w : HalfView) (then : Seated → Type 0) (s : RingState) → (f : Found role key s id v) → Grows v w → Sides role key (set s.words i r) s.homes (record w { steps = v.steps }) f.yours → then (Live role w, fronted n me.1)
      → (u : View) × (act : Act (Option Stored)) × Valid s.homes me.1 act × RingRule key (stepped s i r id me.1 u act) × then (u, carried_after me.1 act)
  fronting n i r w then s f g b told = let act = front_act n me.1 in let o = front_out n me.1 s.homes (carried_out s.homes f.sides.my_way.out) carried_once in (
    Live role w,
    act,
    o.0,
    subst (λ (hs : Homes). RingRule key record { words = set s.words i r; homes = hs; views = set s.views id (Live role w) }) (sym o.1) (f.keeps (set s.words i r) s.homes w g b),
    subst (λ (l : List Slot). then (Live role w, l)) (sym (front_carried n me.1)) told,
  )

pub allows_desc_len : (key : Shape) (slots id n len a b c : ℕ) (me : Seated) (v : HalfView) → me.0 ≡ Live Driver v → slots ≡ key.size → HalfHolds key.size Driver v me.1 a b c → Holds Driver key.size v n → len ≤ key.length → v.staged ≡ Idle
    → Allows (RingRule key) slots id me (4 * n + 1) (λ _. len) (λ _. desc_len_stored (step slots (4 * n + 1) len 0 none) me len)
allows_desc_len key slots id n len a b c me v is sized h held brief idle s holds deep at _ =
    let f = found Driver key s id v me.0 holds at is in let st : Staged = LengthStored n len in let i : ℕ = 4 * n + 1 in
    let has = i_hold Driver key s.words s.homes v f.yours f.sides n held in
    let kept = length_stored Driver key s.words s.homes v f.yours f.sides i len n st held refl brief tt (λ k e. cc) refl (λ k q. subst (λ (x : Staged). HasLength x k) idle q) (λ q. absurd (subst HasNumber idle q))
    (held, stored_here Driver key s.words s.homes v f.yours f.sides i i len (len_here Driver key s.words s.homes v f.yours f.sides i n has.0 refl) refl, brief) in
    fronting Driver key id me v a b c h n i len (staging st v) (desc_len_stored (step slots i len 0 none) me len) s f (unmoved v) kept
    (λ v' id' is' word. let same : v ≡ v' = same_live Driver v v' me.0 is is' in let num : n ≡ id' = omega arith in
    ((λ j. Live Driver (staging (LengthStored (num j) len) (same j))), ap (λ (x : ℕ). fronted x me.1) num))

pub allows_used_id : (key : Shape) (slots id i n a b c : ℕ) (me : Seated) (v : HalfView) → me.0 ≡ Live Device v → slots ≡ key.size → HalfHolds key.size Device v me.1 a b c → Holds Device key.size v n → v.staged ≡ Idle
    → i ≡ (way_of Device key.size).number (length v.written % key.size)
    → Allows (RingRule key) slots id me i (λ _. n) (λ _. used_id_stored (step slots i n 0 none) me n)
allows_used_id key slots id i n a b c me v is sized h held idle word s holds deep at _ =
    let f = found Device key s id v me.0 holds at is in let st : Staged = NumberStored n in
    let kept = number_stored Device key s.words s.homes v f.yours f.sides i n st held word tt (λ k e. cc) tt (λ k q. absurd (subst (λ (x : Staged). HasLength x k) idle q))
    (held, stored_here Device key s.words s.homes v f.yours f.sides i ((way_of Device key.size).number (length v.written % key.size)) n (number_here Device key s.words s.homes v f.yours f.sides i word) word) in
    fronting Device key id me v a b c h n i n (staging st v) (used_id_stored (step slots i n 0 none) me n) s f (unmoved v) kept
    (λ v' is'. let same : v ≡ v' = same_live Device v v' me.0 is is' in (ap (λ (x : HalfView). Live Device (staging st x)) same, refl))

pub allows_avail_entry : (key : Shape) (slots id i n len : ℕ) (me : Seated) (v : HalfView) → me.0 ≡ Live Driver v → v.staged ≡ LengthStored n len → i ≡ (way_of Driver key.size).number (length v.written % key.size)
    → Allows (RingRule key) slots id me i (λ _. n) (λ _. avail_entry_stored (step slots i n 0 none) me n)
allows_avail_entry key slots id i n len me v is staged_is word s holds deep at _ =
    let f = found Driver key s id v me.0 holds at is in let st : Staged = BothStored n len in let way : Way = way_of Driver key.size in let m : ℕ = length v.written in
    let k = subst (StagedHolds way key.size key.length s.words (Holds Driver key.size v) m) staged_is f.sides.my_way.staged in
    let has = i_hold Driver key s.words s.homes v f.yours f.sides n k.0 in
    let kept = number_stored Driver key s.words s.homes v f.yours f.sides i n st k.0 word tt (λ j e. cc) tt (λ j q. subst (λ (x : Staged). HasLength x j) staged_is q) (
      k.0,
      stored_here Driver key s.words s.homes v f.yours f.sides i (way.number (m % key.size)) n (number_here Driver key s.words s.homes v f.yours f.sides i word) word,
      get_apart s.words i (way.len n) n (λ e. number_not_len Driver key.size (m % key.size) n has.0 (sym word ∙ e)) ∙ k.1,
      k.2,
    ) in (
      Live Driver (staging st v),
      keeps,
      tt,
      f.keeps (set s.words i n) s.homes (staging st v) (unmoved v) kept,
      λ v' n' len' is' st'. let same : v ≡ v' = same_live Driver v v' me.0 is is' in
          let both : LengthStored n len ≡ LengthStored n' len' = sym staged_is ∙ (ap (λ (x : HalfView). x.staged) same ∙ st') in let num : n ≡ n' = cc in let ln : len ≡ len' = cc in
          ((λ j. Live Driver (staging (BothStored (num j) (ln j)) (same j))), refl),
    )

pub allows_used_len : (key : Shape) (slots id i n len : ℕ) (me : Seated) (v : HalfView) → me.0 ≡ Live Device v → v.staged ≡ NumberStored n → len ≤ key.length → i ≡ (way_of Device key.size).len (length v.written % key.size)
    → Allows (RingRule key) slots id me i (λ _. len) (λ _. used_len_stored (step slots i len 0 none) me len)
allows_used_len key slots id i n len me v is staged_is brief word s holds deep at _ =
    let f = found Device key s id v me.0 holds at is in let st : Staged = BothStored n len in let way : Way = way_of Device key.size in let m : ℕ = length v.written in
    let k = subst (StagedHolds way key.size key.length s.words (Holds Device key.size v) m) staged_is f.sides.my_way.staged in
    let has = i_hold Device key s.words s.homes v f.yours f.sides n k.0 in let pos = some_size Device key s.words s.homes v f.yours f.sides in
    let kept = length_stored Device key s.words s.homes v f.yours f.sides i len n st k.0 word brief tt (λ j e. cc) refl (λ j q. subst (λ (x : Staged). HasLength x j) staged_is q) (λ _. tt) (
      k.0,
      get_apart s.words i (way.number (m % key.size)) len (λ e. number_not_len Device key.size (m % key.size) (m % key.size) (mod-lt m pos) (sym e ∙ word)) ∙ k.1,
      stored_here Device key s.words s.homes v f.yours f.sides i (way.len (m % key.size)) len (len_here Device key s.words s.homes v f.yours f.sides i n has.0 word) word,
      brief,
    ) in (
      Live Device (staging st v),
      keeps,
      tt,
      f.keeps (set s.words i len) s.homes (staging st v) (unmoved v) kept,
      λ v' n' is' st'. let same : v ≡ v' = same_live Device v v' me.0 is is' in
          let both : NumberStored n ≡ NumberStored n' = sym staged_is ∙ (ap (λ (x : HalfView). x.staged) same ∙ st') in let num : n ≡ n' = cc in
          ((λ j. Live Device (staging (BothStored (num j) len) (same j))), refl),
    )

pub allows_publish : (role : Role) (key : Shape) (slots id i new len : ℕ) (me : Seated) (v : HalfView) (b : Stored) (below : List Slot) → me.0 ≡ Live role v → v.staged ≡ BothStored b.number len → length b.bytes ≡ v.width → new ≡ (length v.written + 1) % 65536
    → me.1 ≡ (b.number, Some b) ∷ below → i ≡ (way_of role key.size).idx
    → Allows (RingRule key) slots id me i (λ _. new) (λ _. by_either index_published (step slots i new 0 none) me new)
allows_publish role key slots id i new len me v b below is staged_is bytes next carried word s holds deep at _ =
    let f = found role key s id v me.0 holds at is in let w : HalfView = writing (b, len) v in
    let kept = publish_keeps role key s.words s.homes v f.yours f.sides new len b staged_is (bytes ∙ f.sides.my_way.width) next in (
      Live role w,
      gives,
      tt,
      subst (λ (t : List Slot × ℕ). RingRule key (stepped s t.1 new id t.0 (Live role w) gives)) (λ j. (sym carried j, sym word j))
          (f.keeps (set s.words (way_of role key.size).idx new) (set s.homes b.number (some (Some b))) w (((b, len) ∷ [], refl), prefix-refl v.taken, prefix-refl v.looks, le_refl v.shown) kept),
      λ role' v' b' len' below' is' st' carried'. let same = same_half role role' v v' me.0 is is' in
          let buf : b ≡ b' = same_front b b' below below' (sym carried ∙ carried') in
          let staged' : BothStored b.number len ≡ BothStored b'.number len' = sym staged_is ∙ (ap (λ (x : Role × HalfView). x.1.staged) same ∙ st') in let ln : len ≡ len' = cc in
          ((λ j. Live (same j).0 (writing (buf j, ln j) (same j).1)), ap rest carried'),
    )

pub allows_look : (role : Role) (key : Shape) (slots id i : ℕ) (me : Seated) (v : HalfView) → me.0 ≡ Live role v → slots ≡ key.size → i ≡ (way_of (other role) key.size).idx
    → Allows (RingRule key) slots id me i (λ n. n) (by_either index_loaded (step slots i 0 0 none) me)
allows_look role key slots id i me v is sized word s holds deep at _ =
    let f = found role key s id v me.0 holds at is in let r : ℕ = get_or s.words i 0 in let n : ℕ = ahead r (length v.taken) in let w : HalfView = looking n v in
    let look : n ≡ length f.yours.written - length v.taken = ap (λ (j : ℕ). ahead (get_or s.words j 0) (length v.taken)) word ∙ look_is role key s.words s.homes v f.yours f.sides in
    let long = your_length role key s.words s.homes v f.yours f.sides in let count = your_count role key s.words s.homes v f.yours f.sides in
    let low = f.sides.your_way.entries.shown_first in let high = f.sides.your_way.entries.written_first in
    let fit = Rattle.shared_words.proofs.Sides.your_fit role key s.words s.homes v f.yours f.sides in
    let word_is : r ≡ length f.yours.written % 65536 = ap (λ (j : ℕ). get_or s.words j 0) word ∙ f.sides.your_way.entries.idx in
    let kept = show_keeps role key s.words s.homes v f.yours f.sides (length v.taken + n) (v.looks ++ n ∷ []) (omega (arith, look, high)) (omega (arith, look, long)) in (
      Live role w,
      keeps,
      tt,
      subst (λ (ws : List ℕ). RingRule key record { words = ws; homes = s.homes; views = set s.views id (Live role w) }) (sym (set-get_or s.words i 0))
          (f.keeps s.words s.homes w (prefix-refl v.written, prefix-refl v.taken, (n ∷ [], refl), omega (arith, look, long, high)) kept),
      λ role' v' is'. let same = same_half role role' v v' me.0 is is' in subst (λ (x : Role × HalfView). let k = ahead r (length x.1.taken) in
          (Live role w ≡ Live x.0 (looking k x.1)) × (me.1 ≡ me.1) × (r < 65536) × (x.1.shown ≤ length x.1.taken + k) × (length x.1.taken + k + starts_with x.0 slots ≤ slots + length x.1.written) × (k ≤ slots)) same
          (refl, refl, omega (arith, word_is), omega (arith, look, long, high), subst (λ (y : ℕ). length v.taken + n + starts_with role y ≤ y + length v.written) (sym sized) (omega (arith, look, long, count)), omega (arith, look, long, fit, sized)),
    )

pub allows_read : (role : Role) (key : Shape) (slots id i : ℕ) (me : Seated) (v : HalfView) → me.0 ≡ Live role v → v.staged ≡ Idle → length v.taken < v.shown → slots ≡ key.size → i ≡ (way_of (other role) key.size).number (length v.taken % key.size)
    → Allows (RingRule key) slots id me i (λ n. n) (by_either number_loaded (step slots i 0 0 none) me)
allows_read role key slots id i me v is idle more sized word s holds deep at _ =
    let f = found role key s id v me.0 holds at is in let r : ℕ = get_or s.words i 0 in let w : HalfView = staging (NumberRead r) v in
    let word_is : r ≡ get_or s.words ((way_of (other role) key.size).number (length v.taken % key.size)) 0 = ap (λ (j : ℕ). get_or s.words j 0) word in
    let kept = read_keeps role key s.words s.homes v f.yours f.sides r idle more word_is in
    let low = f.sides.your_way.in_range.numbers (length v.taken % key.size) (mod-lt (length v.taken) (some_size role key s.words s.homes v f.yours f.sides)) in (
      Live role w,
      keeps,
      tt,
      subst (λ (ws : List ℕ). RingRule key record { words = ws; homes = s.homes; views = set s.views id (Live role w) }) (sym (set-get_or s.words i 0)) (f.keeps s.words s.homes w (unmoved v) kept),
      λ role' v' is'. let same = same_half role role' v v' me.0 is is' in (ap (λ (x : Role × HalfView). Live x.0 (staging (NumberRead r) x.1)) same, refl, omega (arith, low, word_is, sized)),
    )

pub allows_take : (role : Role) (key : Shape) (slots id i n : ℕ) (me : Seated) (v : HalfView) → me.0 ≡ Live role v → v.staged ≡ NumberRead n → slots ≡ key.size → i ≡ (way_of (other role) key.size).len ((way_of (other role) key.size).len_place (length v.taken) n)
    → Allows (RingRule key) slots id me i (λ n. n) (by_either len_loaded (step slots i 0 0 none) me)
allows_take role key slots id i n me v is staged_is sized word s holds deep at _ =
    let f = found role key s id v me.0 holds at is in let r : ℕ = get_or s.words i 0 in let way : Way = way_of (other role) key.size in
    let e = next_is role key s.words s.homes v f.yours f.sides n staged_is in let x : Entry = e.0 in let num : number_of x ≡ n = e.4 in
    let stand = f.sides.your_way.entries.standing (length v.taken) x (le_refl (length v.taken)) e.3 in let range = f.sides.your_way.in_range.entries (length v.taken) x e.3 in
    let len : r ≡ x.1 = ap (λ (j : ℕ). get_or s.words j 0) (word ∙ ap (λ (k : ℕ). way.len (way.len_place (length v.taken) k)) (sym num)) ∙ stand.len in
    let entry : x ≡ (x.0, r) = λ j. (x.0, sym len j) in
    let slot : get_elem? s.homes n ≡ some (some (Some x.0)) = subst (λ (j : ℕ). get_elem? s.homes j ≡ some (some (Some x.0))) num stand.slot in
    let there : 0 < times n f.sides.your_way.entries.left = subst (λ (k : ℕ). 0 < times k f.sides.your_way.entries.left) num
    (Rattle.shared_words.proofs.WayLemmas.left_there (other role) key.size s.words s.homes f.yours.written v.taken v.shown v.staged f.sides.your_way.entries (length v.taken) x (le_refl (length v.taken)) e.3) in
    let free = left_not_mine role key s.words s.homes v f.yours f.sides n there in let width = f.sides.my_way.width in
    let w : HalfView = taking (x.0, r) v in
    let kept = take_keeps role key s.words s.homes v f.yours f.sides n x e.1 staged_is e.5 e.2 in (
      Live role w,
      takes n (Some x.0),
      slot,
      subst (λ (ws : List ℕ). RingRule key record { words = ws; homes = set s.homes n none; views = set s.views id (Live role w) }) (sym (set-get_or s.words i 0))
          (subst (λ (t : ℕ × Entry). RingRule key record { words = s.words; homes = set s.homes t.0 none; views = set s.views id (Live role (taking t.1 v)) }) (λ j. (num j, entry j))
          (f.keeps s.words (set s.homes (number_of x) none) (taking x v) (prefix-refl v.written, (x ∷ [], refl), prefix-refl v.looks, le_refl v.shown) kept)),
      λ role' v' n' is' st'. let same = same_half role role' v v' me.0 is is' in
          let both : NumberRead n ≡ NumberRead n' = sym staged_is ∙ (ap (λ (y : Role × HalfView). y.1.staged) same ∙ st') in let same_n : n ≡ n' = cc in (
            x.0,
            num ∙ same_n,
            ap (λ (y : Role × HalfView). Live y.0 (taking (x.0, r) y.1)) same,
            ap (λ (k : ℕ). (k, Some x.0) ∷ me.1) same_n,
            subst (λ (y : Role × HalfView). r ≤ y.1.width) same (omega (arith, len, range, width)),
            range.2 ∙ (sym width ∙ ap (λ (y : Role × HalfView). y.1.width) same),
            subst (λ (t : (Role × HalfView) × ℕ × ℕ). times t.1 t.0.1.written ≡ begins t.0.0 t.2 t.1 + times t.1 t.0.1.taken) (λ j. (same j, same_n j, sym sized j)) free.0,
          ),
    )
