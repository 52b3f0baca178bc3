-- The frames of an item, taken out of the book and given back one after the other.
use Rattle.std.proofs.Common.{◌≡◌, ℕ, suc, ◌+◌, ◌<◌, ◌≤◌, Bool, true, cond, List, [], ◌∷◌, ◌++◌, length, Option, None, Some, refl, sym, ap, ◌∙◌, subst, arith, eq-eqb, length-append}
use Rattle.std.specs.Prelude.{Contains, is_some, option_and_then, option_map}
use Rattle.std.proofs.lemmas.Bool.{eqb-true}
use Rattle.std.proofs.lemmas.List.{append-nil, append_assoc, map-append}
use Rattle.mc_base.specs.declared.request.Slot.{Slot}
use Rattle.buffer_book.specs.Book.{Book, Item, NoneAside, count_of, if_state, is_state, item_at, left_of, with_taken}
use Rattle.buffer_book.proofs.ItemLemmas.{item-name, taken-name}
use Rattle.buffer_book.proofs.NoneAside.{none-taken}
use Rattle.lane_end.specs.ReceiveMoves.{Gave}
use Rattle.domain_parts.specs.AllMoved.{giving}
use Rattle.domain_parts.specs.GivingBack.{AreOut, Giving}
use Rattle.domain_parts.specs.InBook.{frames_at}
use Rattle.domain_parts.specs.LaneMoves.{LaneMove, receiver}
use Rattle.domain_parts.specs.LaneSeen.{LaneSeen, after_move, after_moves}
use Rattle.domain_parts.specs.Steps.{without_frames}
use Rattle.domain_parts.proofs.Books.{frames-some}
use Rattle.domain_parts.proofs.Placed.{state-same}

-- ---- one after the other

without-push : (b : Book) (s : Slot) (lent : Option ℕ) (fs : List ℕ) (f : ℕ) → without_frames b s lent (fs ++ f ∷ []) ≡ with_taken (without_frames b s lent fs) s lent
without-push b s lent [] f = refl
without-push b s lent (g ∷ fs) f = without-push (with_taken b s lent) s lent fs f

after-append : (ms ns : List LaneMove) (l : LaneSeen) → after_moves (ms ++ ns) l ≡ after_moves ns (after_moves ms l)
after-append [] ns l = refl
after-append (m ∷ ms) ns l = after-append ms ns (after_move m l)

giving-push : (fs : List ℕ) (f : ℕ) → giving (fs ++ f ∷ []) ≡ giving fs ++ receiver (Gave f) ∷ []
giving-push fs f = map-append (λ (n : ℕ). receiver (Gave n)) fs (f ∷ [])

-- the state of an item, by its test
exact-state : (l lent : Option ℕ) → is_state l lent ≡ true → l ≡ lent
exact-state None None is = refl
exact-state None (Some n) is = absurd cc
exact-state (Some m) None is = absurd cc
exact-state (Some m) (Some n) is = ap (λ (k : ℕ). Some k) (eqb-true m n is)

itself : (lent : Option ℕ) → is_state lent lent ≡ true
itself None = refl
itself (Some n) = eq-eqb n n refl

module _ {L : Type 0} (M : L → List LaneMove → L → Type 0) (v : L → LaneSeen) (s : Slot) (lent : Option ℕ) where
  -- none was given back yet
  pub giving-none : ((l : L) → M l [] l) → (b : Book) (l : L) → is_some (option_and_then (if_state lent) (item_at b s)) ≡ true → AreOut (v l).out (frames_at b s) → Giving M v s lent 0 b b l l
  giving-none none b l is out =
      let i = state-same lent (item_at b s) is in
      record {
        given = [];
        left = frames_at b s;
        all = refl;
        count = refl;
        book = refl;
        item = i.1 ∙ ap (λ (x : Option ℕ). Some (record { lent = x; first = i.0.first; more = i.0.more })) (exact-state i.0.lent lent i.2) ∙ ap (left_of lent) (sym (frames-some b s i.0 i.1));
        none_aside = λ a. a;
        moved = none l;
        seen = refl;
        out = out;
      }

  -- how many there are
  pub frames-many : (b : Book) (n : ℕ) → is_some (option_and_then (if_state lent) (item_at b s)) ≡ true → Some n ≡ option_map count_of (option_and_then (if_state lent) (item_at b s)) → n ≡ length (frames_at b s)
  frames-many b n is told =
      let i = state-same lent (item_at b s) is in
      let item : option_and_then (if_state lent) (item_at b s) ≡ Some i.0 = ap (option_and_then (if_state lent)) i.1 ∙ ap (λ (x : Bool). cond x (Some i.0) None) i.2 in
      let same : Some n ≡ Some (count_of i.0) = told ∙ ap (option_map count_of) item in
      let count : n ≡ count_of i.0 = cc in
      count ∙ sym (ap length (frames-some b s i.0 i.1))

  module _ (b b' : Book) (k : ℕ) (start now : L) (h : Giving M v s lent k b b' start now) where
    -- one is left
    module _ (few : k < length (frames_at b s)) where
      pub some-left : (f : ℕ) × (fs : List ℕ) × (h.left ≡ f ∷ fs)
      some-left = go h.left (ap length h.all ∙ length-append h.given h.left)
        where
          go : (left : List ℕ) → length (frames_at b s) ≡ length h.given + length left → (f : ℕ) × (fs : List ℕ) × (left ≡ f ∷ fs)
          go [] e = let count = h.count in let zero : length {A = ℕ} [] ≡ 0 = refl in absurd (omega (arith, few, e, count, zero))
          go (f ∷ fs) e = (f, fs, refl)

      abbrev next_frame : ℕ
      next_frame = some-left.0

      abbrev next_item : Item
      next_item = record { lent = lent; first = some-left.0; more = some-left.1 }

      item-is : item_at b' s ≡ Some next_item
      item-is = h.item ∙ ap (left_of lent) some-left.2

      pub next-there : option_and_then (if_state lent) (item_at b' s) ≡ Some next_item
      next-there = ap (option_and_then (if_state lent)) item-is ∙ ap (λ (x : Bool). cond x (Some next_item) None) (itself lent)

      pub next-out : (n : ℕ) → Some n ≡ option_map (λ (i : Item). i.first) (option_and_then (if_state lent) (item_at b' s)) → Contains (v now).out n
      next-out n told =
          let number : n ≡ next_frame = (let same : Some n ≡ Some next_frame = told ∙ ap (option_map (λ (i : Item). i.first)) next-there in cc) in
          let out = subst (AreOut (v now).out) some-left.2 h.out in
          subst (Contains (v now).out) (sym number) out.0

      -- it is given back
      pub giving-next : ((a c d : L) (xs ys : List LaneMove) → M a xs c → M c ys d → M a (xs ++ ys) d) → (n : ℕ) → Some n ≡ option_map (λ (i : Item). i.first) (option_and_then (if_state lent) (item_at b' s)) → (b2 : Book) → b2 ≡ with_taken b' s lent → (l : L) → M now (receiver (Gave n) ∷ []) l → v l ≡ after_move (receiver (Gave n)) (v now)
          → Giving M v s lent (k + 1) b b2 start l
      giving-next both n told b2 book l moved seen =
          let number : n ≡ next_frame = (let same : Some n ≡ Some next_frame = told ∙ ap (option_map (λ (i : Item). i.first)) next-there in cc) in
          let out = subst (AreOut (v now).out) some-left.2 h.out in
          let seen' : v l ≡ after_move (receiver (Gave next_frame)) (v now) = seen ∙ ap (λ (m : ℕ). after_move (receiver (Gave m)) (v now)) number in
          let item = item-name (with_taken b' s lent) s ∙ ap (λ (o : Option (Option Item)). option_and_then (λ x. x) o) (taken-name b' s lent next_item item-is (itself lent)) in
          record {
            given = h.given ++ next_frame ∷ [];
            left = some-left.1;
            all = h.all ∙ ap (λ (xs : List ℕ). h.given ++ xs) some-left.2 ∙ sym (append_assoc h.given (next_frame ∷ []) some-left.1);
            count = let count = h.count in omega (arith, count, length-append h.given (next_frame ∷ []));
            book = book ∙ ap (λ (x : Book). with_taken x s lent) h.book ∙ sym (without-push b s lent h.given next_frame);
            item = subst (λ (x : Book). item_at x s ≡ left_of lent some-left.1) (sym book) item;
            none_aside = λ none. subst NoneAside (sym book) (none-taken b' s lent (h.none_aside none));
            moved = subst (λ (ms : List LaneMove). M start ms l) (sym (giving-push h.given next_frame)) (both start now l (giving h.given) (receiver (Gave next_frame) ∷ []) h.moved (subst (λ (m : ℕ). M now (receiver (Gave m) ∷ []) l) number moved));
            seen = seen' ∙ ap (after_move (receiver (Gave next_frame))) h.seen ∙ sym (after-append (giving h.given) (receiver (Gave next_frame) ∷ []) (v start)) ∙ sym (ap (λ (ms : List LaneMove). after_moves ms (v start)) (giving-push h.given next_frame));
            out = subst (λ (x : LaneSeen). AreOut x.out some-left.1) (sym seen') out.1;
          }

    -- all were
    pub all-given_back : length (frames_at b s) ≤ k → h.given ≡ frames_at b s
    all-given_back all = go h.left (ap length h.all ∙ length-append h.given h.left) h.all
      where
        go : (left : List ℕ) → length (frames_at b s) ≡ length h.given + length left → frames_at b s ≡ h.given ++ left → h.given ≡ frames_at b s
        go [] e is = sym (append-nil h.given) ∙ sym is
        go (f ∷ fs) e is = let count = h.count in let many : length (f ∷ fs) ≡ suc (length fs) = refl in absurd (omega (arith, all, e, count, many))
