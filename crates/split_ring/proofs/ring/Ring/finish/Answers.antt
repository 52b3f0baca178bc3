use Rattle.std.proofs.Common.{◌≡◌, ◌≤◌, ◌∙◌, ap, sym, refl, subst, arith, ◌%◌, ℕ, List, Bool, length}
use Rattle.shared_words.specs.declared.field.Field.TheVariants.{AvailIdx, UsedIdx}
use Rattle.shared_words.specs.Layout.{field_at}
use Rattle.mc_base.specs.Limits.{IsBufferLength}
use Rattle.shared_words.specs.Shape.{IsRingSize, IsShape}
use Rattle.shared_words.specs.Shown.{TableShown, size_of, shape_of}
use Rattle.split_ring.specs.declared.finish.Entries.TheVariants.{Offered, Returned}
use Rattle.split_ring.specs.Ends.{End}
use Rattle.split_ring.specs.Kept.{flag_count}
use Rattle.split_ring.specs.Left.{between}
use Rattle.split_ring.specs.Finished.{FinishedRing, IsFinished}
use Rattle.split_ring.proofs.FinishLemmas.{offered_idx, returned_idx, offered_between, returned_between, finishes, word_found, numbers_found}
use Rattle.split_ring.proofs.ring.Ring.finish.Goals as goal

pub overflow_cast-offered : goal.overflow_cast-offered
overflow_cast-offered c = let t = c.self.inside.table in let z = size_of t.ring in let d = c.driver.inside.half in let e = c.device.inside.half in let words : List ℕ = c.close-words.result.words.items in let closed = c.close-words.ensures in
    let s : IsRingSize z = subst IsRingSize c.self.invariant.1 c.self.invariant.2 in
    let found = word_found c.as_slice-all.result.now words c.word_of.result c.self.inside.size z AvailIdx c.as_slice-all.ensures.value c.word_of.ensures.word c.self.invariant.1 ∙ offered_idx t d e words c.close-words.result.home.items closed s in
    record { fits = omega (arith, found) }

pub overflow_cast-returned : goal.overflow_cast-returned
overflow_cast-returned c = let t = c.self.inside.table in let z = size_of t.ring in let d = c.driver.inside.half in let e = c.device.inside.half in let words : List ℕ = c.close-words.result.words.items in let closed = c.close-words.ensures in
    let s : IsRingSize z = subst IsRingSize c.self.invariant.1 c.self.invariant.2 in
    let found = word_found c.as_slice-all.result.now words c.word_of-2.result c.self.inside.size z UsedIdx c.as_slice-all.ensures.value c.word_of-2.ensures.word c.self.invariant.1 ∙ returned_idx t d e words c.close-words.result.home.items closed s in
    record { fits = omega (arith, found) }

pub numbers_left-offered_left-requires-clause-room :
    goal.numbers_left-offered_left-requires-clause-room
numbers_left-offered_left-requires-clause-room c = let t = c.self.inside.table in let z = size_of t.ring in let d = c.driver.inside.half in let e = c.device.inside.half in let words : List ℕ = c.close-words.result.words.items in let closed = c.close-words.ensures in
    let s : IsRingSize z = subst IsRingSize c.self.invariant.1 c.self.invariant.2 in
    let found = word_found c.as_slice-all.result.now words c.word_of.result c.self.inside.size z AvailIdx c.as_slice-all.ensures.value c.word_of.ensures.word c.self.invariant.1 ∙ offered_idx t d e words c.close-words.result.home.items closed s in
    let few = offered_between t d e words c.close-words.result.home.items closed s in let room = c.self.invariant.3.offered_room in let size = c.self.invariant.1 in
    let many : between c.device.inside.counts.taken (Rattle.std.proofs.Common.get_or c.as_slice-all.result.now c.word_of.result 0) ≡ between (length e.view.taken % 65536) (length d.view.written % 65536) = λ i. between (c.device.invariant.0.taken i) (found i) in
    (c.self.invariant.3.offered_empty, omega (arith, many, few, room, size))

pub numbers_left-returned_left-requires-clause-room :
    goal.numbers_left-returned_left-requires-clause-room
numbers_left-returned_left-requires-clause-room c = let t = c.self.inside.table in let z = size_of t.ring in let d = c.driver.inside.half in let e = c.device.inside.half in let words : List ℕ = c.close-words.result.words.items in let closed = c.close-words.ensures in
    let s : IsRingSize z = subst IsRingSize c.self.invariant.1 c.self.invariant.2 in
    let found = word_found c.as_slice-all.result.now words c.word_of-2.result c.self.inside.size z UsedIdx c.as_slice-all.ensures.value c.word_of-2.ensures.word c.self.invariant.1 ∙ returned_idx t d e words c.close-words.result.home.items closed s in
    let few = returned_between t d e words c.close-words.result.home.items closed s in let room = c.self.invariant.3.returned_room in let size = c.self.invariant.1 in
    let many : between c.driver.inside.counts.taken (Rattle.std.proofs.Common.get_or c.as_slice-all.result.now c.word_of-2.result 0) ≡ between (length d.view.taken % 65536) (length e.view.written % 65536) = λ i. between (c.driver.invariant.0.taken i) (found i) in
    (c.self.invariant.3.returned_empty, omega (arith, many, few, room, size))

pub returns : goal.returns
returns c = let t = c.self.inside.table in let z = size_of t.ring in let d = c.driver.inside.half in let e = c.device.inside.half in let words : List ℕ = c.close-words.result.words.items in let closed = c.close-words.ensures in
    let s : IsRingSize z = subst IsRingSize c.self.invariant.1 c.self.invariant.2 in let all = c.as_slice-all.ensures.value in let size = c.self.invariant.1 in let dc = c.driver.inside.counts in let ec = c.device.inside.counts in
    let avail = word_found c.as_slice-all.result.now words c.word_of.result c.self.inside.size z AvailIdx all c.word_of.ensures.word size in
    let used = word_found c.as_slice-all.result.now words c.word_of-2.result c.self.inside.size z UsedIdx all c.word_of-2.ensures.word size in
    let r : FinishedRing = record {
      queue = c.self.inside.queue;
      size = c.self.inside.size;
      width = c.self.inside.length;
      words = words;
      offered_left = c.numbers_left-offered_left.result.items;
      returned_left = c.numbers_left-returned_left.result.items;
      driver_held = c.numbers_held.result.items;
      device_held = c.numbers_held-2.result.items;
      driver_looks = dc.looks;
      driver_saw = dc.saw;
      device_looks = ec.looks;
      device_saw = ec.saw;
    } in
    let d_on = ap (λ (x : End). x.ring) c.driver.view_is ∙ (c.requires.driver ∙ sym (ap (λ (x : TableShown). x.ring) c.self.view_is)) in
    let e_on = ap (λ (x : End). x.ring) c.device.view_is ∙ (c.requires.device ∙ sym (ap (λ (x : TableShown). x.ring) c.self.view_is)) in
    let inv = c.self.invariant in let width : c.self.inside.length ≡ t.ring.width = inv.4 in
    let queue : t.queue ≤ 1 = subst (λ (q : ℕ). q ≤ 1) inv.0 inv.6 in
    let shape : IsShape (shape_of t) = record { queue = queue; size = s; length = subst IsBufferLength width inv.5 } in
    let is : IsFinished t (Rattle.split_ring.specs.Kept.end_of d) (Rattle.split_ring.specs.Kept.end_of e) r = finishes t d e words c.close-words.result.home.items closed s dc ec c.driver.inside.held.items c.device.inside.held.items r
    c.driver.invariant.0 c.device.invariant.0 c.driver.invariant.1 c.device.invariant.1 d_on e_on c.self.invariant.0 size shape width refl
    (numbers_found c.as_slice-all.result.now words c.self.inside.size z Offered ec.taken (Rattle.std.proofs.Common.get_or c.as_slice-all.result.now c.word_of.result 0) (field_at words z AvailIdx) r.offered_left all size avail c.numbers_left-offered_left.ensures)
    (numbers_found c.as_slice-all.result.now words c.self.inside.size z Returned dc.taken (Rattle.std.proofs.Common.get_or c.as_slice-all.result.now c.word_of-2.result 0) (field_at words z UsedIdx) r.returned_left all size used c.numbers_left-returned_left.ensures)
    (λ x. c.numbers_held.ensures.each x ∙ ap (λ (l : List Bool). flag_count l x) c.as_slice.ensures.value) (λ x. c.numbers_held-2.ensures.each x ∙ ap (λ (l : List Bool). flag_count l x) c.as_slice-2.ensures.value)
    c.numbers_held.ensures.rising c.numbers_held-2.ensures.rising refl refl refl refl in
    subst (λ (x : TableShown × End × End). IsFinished x.0 x.1 x.2 r) (λ i. (c.self.view_is i, c.driver.view_is i, c.device.view_is i)) is
