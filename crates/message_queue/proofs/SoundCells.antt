-- Cells that are sound stay so where a message is queued and where one is taken.
use Rattle.std.proofs.Common.{◌≡◌, ◌≢◌, ℕ, suc, ◌+◌, ◌-◌, ◌<◌, ◌≤◌, ◌^◌, List, [], ◌∷◌, ◌++◌, map, length, set, refl, sym, ap, subst, ◌∙◌, arith, inl, inr, length-append}
use Rattle.std.proofs.lemmas.Bool.{cases_eq}
use Rattle.std.proofs.lemmas.List.{length_push, length-map}
use Rattle.message_queue.specs.declared.cells.Cell.{Cell}
use Rattle.message_queue.specs.declared.cells.Cells.{Cells}
use Rattle.message_queue.specs.Queue.{Waiting}
use Rattle.message_queue.specs.Linked.{at, walk, IsLinked}
use Rattle.message_queue.specs.Cells.{Columns, columns_of, held_at, waiting_of, with_same, AreLinked, order_of, spare_of, room_of, waiting_in, waiting_at, IsSound, IsFirst}
use Rattle.message_queue.proofs.Chains.{walk-linked, length-walk}
use Rattle.message_queue.proofs.CellLists.{AreEven, with_newest, appended-alone, appended-behind, appended-spare, appended-held, appended-places, last_inside, taken_out, taken, taken-spare, taken-places}

-- ---- the lists of places are the walks along the cells

even_columns : (cs : List Cell) → AreEven (columns_of cs)
even_columns cs = (
  length-map cs (λ (c : Cell). c.prev) ∙ sym (length-map cs (λ (c : Cell). c.next)),
  length-map cs (λ (c : Cell). c.same) ∙ sym (length-map cs (λ (c : Cell). c.next)),
  length-map cs (λ (c : Cell). waiting_of c.entry) ∙ sym (length-map cs (λ (c : Cell). c.next)),
)

long : (cs : List Cell) → length (columns_of cs).next ≡ length cs
long cs = length-map cs (λ (c : Cell). c.next)

order-is : (c : Columns) (os : List ℕ) (n : ℕ) → IsLinked c.next c.prev 0 os 0 → length os ≡ n → os ≡ walk c.next n (at c.next 0)
order-is c os n l is = sym (walk-linked c.next c.prev 0 os 0 l) ∙ ap (λ (k : ℕ). walk c.next k (at c.next 0)) is

rewalked : (c : Columns) (first last os fs : List ℕ) (n m free : ℕ) → AreLinked c first last os fs → length os ≡ n → walk c.next m free ≡ fs → AreLinked c first last (walk c.next n (at c.next 0)) (walk c.next m free)
rewalked c first last os fs n m free l is spare =
    subst (λ (r : List ℕ). AreLinked c first last r (walk c.next m free)) (order-is c os n l.linked is) (subst (λ (r : List ℕ). AreLinked c first last os r) (sym spare) l)

sound-from : (q : Cells) (c : Columns) → columns_of q.cells.items ≡ c → AreLinked c q.first q.last (walk c.next q.len (at c.next 0)) (walk c.next (room_of q - q.len) q.free) → q.len < length q.cells.items → length q.cells.items ≤ 2 ^ 32 → IsSound q
sound-from q c is l within fits = record {
  are_linked = subst (λ (k : Columns). AreLinked k q.first q.last (walk k.next q.len (at k.next 0)) (walk k.next (room_of q - q.len) q.free)) (sym is) l;
  within = within;
  fits = fits;
}

-- ---- a message is queued

-- one cell is free, and after it come these
free_first : (old : Cells) → old.len < room_of old → spare_of old ≡ old.free ∷ walk (columns_of old.cells.items).next (room_of old - (old.len + 1)) (at (columns_of old.cells.items).next old.free)
free_first old room =
    let next = (columns_of old.cells.items).next in
    let more : room_of old - old.len ≡ suc (room_of old - (old.len + 1)) = omega arith in
    ap (λ (n : ℕ). walk next n old.free) more

module _ (old : Cells) (w : Waiting) (sound : IsSound old) (room : old.len < room_of old) where
  -- the free cells but the first
  abbrev rest_spare : List ℕ
  rest_spare = walk (columns_of old.cells.items).next (room_of old - (old.len + 1)) (at (columns_of old.cells.items).next old.free)

  was_linked : AreLinked (columns_of old.cells.items) old.first old.last (order_of old) (old.free ∷ rest_spare)
  was_linked = subst (λ (r : List ℕ). AreLinked (columns_of old.cells.items) old.first old.last (order_of old) r) (free_first old room) sound.are_linked

  pub append_places : (old.free < length old.cells.items) × (at (columns_of old.cells.items).prev 0 < length old.cells.items)
  append_places =
      let c = columns_of old.cells.items in
      let places = appended-places c old.first old.last (order_of old) old.free rest_spare w (even_columns old.cells.items) was_linked in
      let a = places.0 in
      let b = places.1 in
      (omega (arith, long old.cells.items), omega (arith, long old.cells.items))

  pub append_last : at old.first w.priority ≢ 0 → at old.last w.priority < length old.cells.items
  append_last some =
      let c = columns_of old.cells.items in
      let lt = last_inside c old.first old.last (order_of old) old.free rest_spare w (even_columns old.cells.items) was_linked some in
      omega (arith, long old.cells.items)

  module _ (new : Cells) (lt_first : w.priority < length old.first) (lt_last : w.priority < length old.last) (last : new.last ≡ set old.last w.priority old.free) (free : new.free ≡ at (columns_of old.cells.items).next old.free) (len : new.len ≡ old.len + 1) (same_room : length new.cells.items ≡ length old.cells.items) where
    -- from the lists of places to the walks
    append_from : (c : Columns) → columns_of new.cells.items ≡ c → AreLinked c new.first new.last (order_of old ++ old.free ∷ []) rest_spare → walk c.next (room_of old - (old.len + 1)) (at (columns_of old.cells.items).next old.free) ≡ rest_spare → map (held_at c.held) (order_of old ++ old.free ∷ []) ≡ waiting_in old ++ w ∷ [] → IsSound new × (waiting_in new ≡ waiting_in old ++ w ∷ [])
    append_from c is l spare held =
        let n0 = length-walk (columns_of old.cells.items).next old.len (at (columns_of old.cells.items).next 0) in
        let n : length (order_of old ++ old.free ∷ []) ≡ new.len = length_push (order_of old) old.free ∙ ap (λ (k : ℕ). k + 1) n0 ∙ sym len in
        let m : room_of old - (old.len + 1) ≡ room_of new - new.len = omega arith in
        let spare_new : walk c.next (room_of new - new.len) new.free ≡ rest_spare = ap (λ (k : ℕ). walk c.next k new.free) (sym m) ∙ ap (λ (h : ℕ). walk c.next (room_of old - (old.len + 1)) h) free ∙ spare in
        let order = order-is c (order_of old ++ old.free ∷ []) new.len l.linked n in
        let wide = sound.fits in (
          sound-from new c is (rewalked c new.first new.last (order_of old ++ old.free ∷ []) rest_spare new.len (room_of new - new.len) new.free l n spare_new) (omega arith) (omega arith),
          ap (λ (k : Columns). map (held_at k.held) (walk k.next new.len (at k.next 0))) is ∙ ap (map (held_at c.held)) (sym order) ∙ held,
        )

    pub append_sound : (at old.first w.priority ≡ 0 → (columns_of new.cells.items ≡ with_newest (columns_of old.cells.items) old.free w) × (new.first ≡ set old.first w.priority old.free)) → (at old.first w.priority ≢ 0 → (columns_of new.cells.items ≡ with_same (with_newest (columns_of old.cells.items) old.free w) (at old.last w.priority) old.free) × (new.first ≡ old.first)) → IsSound new × (waiting_in new ≡ waiting_in old ++ w ∷ [])
    append_sound alone behind =
        let c = columns_of old.cells.items in
        let even = even_columns old.cells.items in
        let os = order_of old in
        let f = old.free in
        let spare = appended-spare c old.first old.last os f rest_spare w even was_linked (room_of old - (old.len + 1)) (at c.next f) refl in
        let held = appended-held c old.first old.last os f rest_spare w even was_linked in
        elim (cases_eq (at old.first w.priority) 0) [
          | inl none ↦
              let l = appended-alone c old.first old.last os f rest_spare w even was_linked lt_first lt_last none in
              let first = (alone none).1 in
              append_from (with_newest c f w) (alone none).0 (subst (λ (r : List ℕ). AreLinked (with_newest c f w) new.first r (os ++ f ∷ []) rest_spare) (sym last) (subst (λ (r : List ℕ). AreLinked (with_newest c f w) r (set old.last w.priority f) (os ++ f ∷ []) rest_spare) (sym first) l)) spare held
          | inr some ↦
              let k = with_same (with_newest c f w) (at old.last w.priority) f in
              let l = appended-behind c old.first old.last os f rest_spare w even was_linked lt_last some in
              let first = (behind some).1 in
              append_from k (behind some).0 (subst (λ (r : List ℕ). AreLinked k new.first r (os ++ f ∷ []) rest_spare) (sym last) (subst (λ (r : List ℕ). AreLinked k r (set old.last w.priority f) (os ++ f ∷ []) rest_spare) (sym first) l)) spare held
        ]

-- ---- a message is taken

module _ (old : Cells) (o : ℕ) (sound : IsSound old) (is_first : IsFirst old o) where
  stood : AreLinked (columns_of old.cells.items) old.first old.last (is_first.before ++ o ∷ is_first.after) (spare_of old)
  stood = subst (λ (r : List ℕ). AreLinked (columns_of old.cells.items) old.first old.last r (spare_of old)) is_first.split sound.are_linked

  pub take_places : (o < length old.cells.items) × (at (columns_of old.cells.items).prev o < length old.cells.items) × (at (columns_of old.cells.items).next o < length old.cells.items)
  take_places =
      let c = columns_of old.cells.items in
      let places = taken-places c old.first old.last is_first.before o is_first.after (spare_of old) old.free (even_columns old.cells.items) stood in
      let a = places.0 in
      let b = places.1 in
      let d = places.2 in
      (omega (arith, long old.cells.items), omega (arith, long old.cells.items), omega (arith, long old.cells.items))

  -- one more waits than stand beside it
  pub take_count : length (is_first.before ++ is_first.after) + 1 ≡ old.len
  take_count =
      let all : length (is_first.before ++ o ∷ is_first.after) ≡ old.len = sym (ap length is_first.split) ∙ length-walk (columns_of old.cells.items).next old.len (at (columns_of old.cells.items).next 0) in
      omega (arith, length-append is_first.before (o ∷ is_first.after), length-append is_first.before is_first.after)

  pub take_sound : (new : Cells) → (held_at (columns_of old.cells.items).held o).priority < length old.first → columns_of new.cells.items ≡ taken_out (columns_of old.cells.items) o old.free → new.first ≡ set old.first (held_at (columns_of old.cells.items).held o).priority (at (columns_of old.cells.items).same o) → new.last ≡ old.last → new.free ≡ o → new.len + 1 ≡ old.len → length new.cells.items ≡ length old.cells.items → IsSound new × (waiting_in new ≡ waiting_at old (is_first.before ++ is_first.after))
  take_sound new lt is first last free len same_room =
      let c0 = columns_of old.cells.items in
      let c = taken_out c0 o old.free in
      let xs = is_first.before in
      let ys = is_first.after in
      let q = (held_at c0.held o).priority in
      let even = even_columns old.cells.items in
      let l0 : AreLinked c (set old.first q (at c0.same o)) old.last (xs ++ ys) (o ∷ spare_of old) = taken c0 old.first old.last xs o ys (spare_of old) old.free even stood is_first.first lt in
      let l : AreLinked c new.first new.last (xs ++ ys) (o ∷ spare_of old) = subst (λ (r : List ℕ). AreLinked c new.first r (xs ++ ys) (o ∷ spare_of old)) (sym last) (subst (λ (r : List ℕ). AreLinked c r old.last (xs ++ ys) (o ∷ spare_of old)) (sym first) l0) in
      let within = sound.within in
      let wide = sound.fits in
      let m : suc (room_of old - old.len) ≡ room_of new - new.len = omega arith in
      let spare0 = taken-spare c0 old.first old.last xs o ys (spare_of old) old.free even stood (room_of old - old.len) refl in
      let spare : walk c.next (room_of new - new.len) new.free ≡ o ∷ spare_of old = ap (λ (k : ℕ). walk c.next k new.free) (sym m) ∙ ap (λ (h : ℕ). walk c.next (suc (room_of old - old.len)) h) free ∙ spare0 in
      let count = take_count in
      let n : length (xs ++ ys) ≡ new.len = omega arith in
      let order = order-is c (xs ++ ys) new.len l.linked n in (
        sound-from new c is (rewalked c new.first new.last (xs ++ ys) (o ∷ spare_of old) new.len (room_of new - new.len) new.free l n spare) (omega arith) (omega arith),
        ap (λ (k : Columns). map (held_at k.held) (walk k.next new.len (at k.next 0))) is ∙ ap (map (held_at c0.held)) (sym order),
      )

-- ---- how many wait

pub waiting_count : (q : Cells) → length (waiting_in q) ≡ q.len
waiting_count q =
    let c = columns_of q.cells.items in
    length-map (order_of q) (held_at c.held) ∙ length-walk c.next q.len (at c.next 0)
