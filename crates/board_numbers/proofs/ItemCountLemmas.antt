-- Counting the items of channels line by line, and domain by domain.
use Rattle.std.proofs.Common.{◌≡◌, ℕ, ◌+◌, ◌≤◌, ◌<◌, Bool, true, false, cond, List, [], ◌∷◌, ◌++◌, length, take, get_or, Option, refl, sym, ap, ◌∙◌, subst, arith, sum_by}
use Rattle.std.specs.Prelude.{◌==◌, count_by, slice_index}
use Rattle.std.proofs.lemmas.List.Sums.{sum_by_more, sum_by_more_le}
use Rattle.board_model.specs.Journal.{Line}
use Rattle.board_numbers.specs.declared.items.ChannelKey.{ChannelKey}
use Rattle.board_numbers.specs.declared.items.ItemCounts.{ItemCounts}
use Rattle.board_numbers.specs.declared.items.ItemsTold.{ItemsTold}
use Rattle.board_numbers.specs.Counts.{one_if}
use Rattle.board_numbers.specs.EndedDomains.{Ended}
use Rattle.board_numbers.specs.Items.{is_item_put, is_item_taken, is_item_lost, told_in, closing_last}
use Rattle.board_numbers.specs.ItemCounts.{AddsLines, AddsTold, ClosesLast, CountsLines, HasNoItems, HasRoomForLines, HavePlaces, HaveSamePlaces, IsCountedBy, ItemsFit, TellItems, TellsItems, told_of, sent_in, brought_in, dropped_in, sent_at, brought_at, dropped_at}
use Rattle.board_numbers.proofs.ClosedLines.{closed-append}
use Rattle.board_numbers.proofs.CountLemmas.{count-last}

-- ---- one line more

own_more : (b : Bool) (p : Line → Bool) (lines : List Line) (l : Line) → cond b (count_by p (lines ++ l ∷ [])) 0 ≡ cond b (count_by p lines) 0 + cond b (one_if (p l)) 0
own_more true p lines l = count-last p lines l
own_more false p lines l = refl

module _ (owner n : ℕ) (lines : List Line) (l : Line) where
  sent_more : (own : ℕ) → sent_in owner n own (lines ++ l ∷ []) ≡ sent_in owner n own lines + cond (own == owner) (one_if (is_item_put n l)) 0
  sent_more own = own_more (own == owner) (is_item_put n) lines l

  brought_more : brought_in owner n (lines ++ l ∷ []) ≡ brought_in owner n lines + one_if (is_item_taken owner n l)
  brought_more = count-last (is_item_taken owner n) lines l

  dropped_more : dropped_in owner n (lines ++ l ∷ []) ≡ dropped_in owner n lines + (one_if (is_item_lost owner n l) + cond (closing_last owner n false lines) (told_in l) 0)
  dropped_more = omega (arith, count-last (is_item_lost owner n) lines l, closed-append owner n false lines (l ∷ []))

module _ (own : ℕ) (lines : List Line) (closing : Option ChannelKey) (l : Line) (t : Option ItemsTold) (closes : ClosesLast lines closing) (tells : TellsItems own closing l t) where
  dropped_told : (owner n : ℕ) → told_of (λ x. x.dropped) owner n t ≡ one_if (is_item_lost owner n l) + cond (closing_last owner n false lines) (told_in l) 0
  dropped_told owner n = tells.dropped owner n ∙ ap (λ b. one_if (is_item_lost owner n l) + cond b (told_in l) 0) (closes owner n)

  -- there is room for the lines before, too
  room_before : (old : ItemCounts) → HasRoomForLines old.owner own (lines ++ l ∷ []) old → HasRoomForLines old.owner own lines old
  room_before old room = record {
    sent = λ n within. omega (arith, room.sent n within, sent_more old.owner n lines l own);
    brought = λ n within. omega (arith, room.brought n within, brought_more old.owner n lines l);
    dropped = λ n within. omega (arith, room.dropped n within, dropped_more old.owner n lines l);
  }

  adds_more : (old mid new : ItemCounts) → HasRoomForLines old.owner own (lines ++ l ∷ []) old → mid.owner ≡ old.owner → HaveSamePlaces old mid → AddsLines old.owner own lines old mid → AddsTold t mid new → AddsLines old.owner own (lines ++ l ∷ []) old new
  adds_more old mid new room same places before adds = record {
    sent = λ n within.
        let inside : n < length mid.sent.items = omega (arith, within, places.sent) in
        let told : told_of (λ x. x.sent) mid.owner n t ≡ cond (own == old.owner) (one_if (is_item_put n l)) 0 = ap (λ (o : ℕ). told_of (λ x. x.sent) o n t) same ∙ tells.sent old.owner n in
        let more = sent_more old.owner n lines l own in
        let was = before.sent n within in
        omega (arith, adds.sent n inside (omega (arith, room.sent n within, was, told, more)), was, told, more);
    brought = λ n within.
        let inside : n < length mid.brought.items = omega (arith, within, places.brought) in
        let told : told_of (λ x. x.brought) mid.owner n t ≡ one_if (is_item_taken old.owner n l) = ap (λ (o : ℕ). told_of (λ x. x.brought) o n t) same ∙ tells.brought old.owner n in
        let more = brought_more old.owner n lines l in
        let was = before.brought n within in
        omega (arith, adds.brought n inside (omega (arith, room.brought n within, was, told, more)), was, told, more);
    dropped = λ n within.
        let inside : n < length mid.dropped.items = omega (arith, within, places.dropped) in
        let told : told_of (λ x. x.dropped) mid.owner n t ≡ one_if (is_item_lost old.owner n l) + cond (closing_last old.owner n false lines) (told_in l) 0 = ap (λ (o : ℕ). told_of (λ x. x.dropped) o n t) same ∙ dropped_told old.owner n in
        let more = dropped_more old.owner n lines l in
        let was = before.dropped n within in
        omega (arith, adds.dropped n inside (omega (arith, room.dropped n within, was, told, more)), was, told, more);
  }

  -- what the line tells is added
  pub lines-more : (old mid new : ItemCounts) → CountsLines own lines old mid → AddsTold t mid new → CountsLines own (lines ++ l ∷ []) old new
  lines-more old mid new so adds = record {
    owner = adds.owner ∙ so.owner;
    places = record { sent = adds.places.sent ∙ so.places.sent; brought = adds.places.brought ∙ so.places.brought; dropped = adds.places.dropped ∙ so.places.dropped };
    counted = λ room. adds_more old mid new room so.owner so.places (so.counted (room_before old room)) adds;
  }

-- before the first line
pub lines-none : (own : ℕ) (c : ItemCounts) → CountsLines own [] c c
lines-none own c = record {
  owner = refl;
  places = record { sent = refl; brought = refl; dropped = refl };
  counted = λ room. record { sent = λ n within. nothing (own == c.owner) n (slice_index c.sent.items n); brought = λ n within. omega arith; dropped = λ n within. omega arith };
}
  where
    nothing : (b : Bool) (n x : ℕ) → x ≡ x + cond b (count_by (is_item_put n) []) 0
    nothing true n x = omega arith
    nothing false n x = omega arith

-- ---- the domains, so far

abbrev TellSoFar : ℕ → List Ended → ℕ → ItemCounts → Type 0
TellSoFar owner es i c = TellItems (λ n. sum_by (sent_at owner n) (take i es)) (λ n. sum_by (brought_at owner n) (take i es)) (λ n. sum_by (dropped_at owner n) (take i es)) c

module _ (owner : ℕ) (es : List Ended) (i : ℕ) (e : Ended) (within : i < length es) (is : e ≡ get_or es i e) where
  sum_below : (f : Ended → ℕ) → sum_by f (take i es) + f e ≤ sum_by f es
  sum_below f = subst (λ (x : Ended). sum_by f (take i es) + f x ≤ sum_by f es) (sym is) (sum_by_more_le f es i e within)

  sum_next : (f : Ended → ℕ) → sum_by f (take (i + 1) es) ≡ sum_by f (take i es) + f e
  sum_next f = sum_by_more f es i e within ∙ ap (λ (x : Ended). sum_by f (take i es) + f x) (sym is)

  -- there is room for the lines of one domain more
  room_for_domain : (c : ItemCounts) → ItemsFit owner es → TellSoFar owner es i c → HasRoomForLines owner e.number e.lines c
  room_for_domain c fits so = record {
    sent = λ n inside. let so_far : slice_index c.sent.items n ≡ sum_by (sent_at owner n) (take i es) = so.sent n inside in omega (arith, fits.sent n, so_far, sum_below (sent_at owner n));
    brought = λ n inside. let so_far : slice_index c.brought.items n ≡ sum_by (brought_at owner n) (take i es) = so.brought n inside in omega (arith, fits.brought n, so_far, sum_below (brought_at owner n));
    dropped = λ n inside. let so_far : slice_index c.dropped.items n ≡ sum_by (dropped_at owner n) (take i es) = so.dropped n inside in omega (arith, fits.dropped n, so_far, sum_below (dropped_at owner n));
  }

  domain_counted : (old new : ItemCounts) → TellSoFar owner es i old → AddsLines owner e.number e.lines old new → HaveSamePlaces old new → TellSoFar owner es (i + 1) new
  domain_counted old new so more same = record {
    sent = λ n inside. let there : n < length old.sent.items = omega (arith, inside, same.sent) in more.sent n there ∙ ap (λ (k : ℕ). k + sent_at owner n e) (so.sent n there) ∙ sym (sum_next (sent_at owner n));
    brought = λ n inside. let there : n < length old.brought.items = omega (arith, inside, same.brought) in more.brought n there ∙ ap (λ (k : ℕ). k + brought_at owner n e) (so.brought n there) ∙ sym (sum_next (brought_at owner n));
    dropped = λ n inside. let there : n < length old.dropped.items = omega (arith, inside, same.dropped) in more.dropped n there ∙ ap (λ (k : ℕ). k + dropped_at owner n e) (so.dropped n there) ∙ sym (sum_next (dropped_at owner n));
  }

places_kept : (many : ℕ) (old new : ItemCounts) → HavePlaces many old → HaveSamePlaces old new → HavePlaces many new
places_kept many old new have same = record { sent = same.sent ∙ have.sent; brought = same.brought ∙ have.brought; dropped = same.dropped ∙ have.dropped }

-- before the first domain, and after the next
pub counted-none : (es : List Ended) (e : Ended) (c : ItemCounts) → HasNoItems e c → IsCountedBy es (take 0 es) e c
counted-none es e c none = record { owner = none.owner; places = none.places; counted = λ fits. record { sent = none.none.sent; brought = none.none.brought; dropped = none.none.dropped } }

pub counted-more : (es : List Ended) (i : ℕ) (x : Ended) → i < length es → x ≡ get_or es i x → (e : Ended) (old new : ItemCounts) → IsCountedBy es (take i es) e old → CountsLines x.number x.lines old new → IsCountedBy es (take (i + 1) es) e new
counted-more es i x within is e old new so more = record {
  owner = more.owner ∙ so.owner;
  places = places_kept (e.state.channels_given + 1) old new so.places more.places;
  counted = λ fits.
      let before = so.counted fits in
      let room = room_for_domain e.number es i x within is old fits before in
      let counts : AddsLines e.number x.number x.lines old new = subst (λ o. AddsLines o x.number x.lines old new) so.owner (more.counted (subst (λ o. HasRoomForLines o x.number x.lines old) (sym so.owner) room)) in
      domain_counted e.number es i x within is old new before counts more.places;
}
