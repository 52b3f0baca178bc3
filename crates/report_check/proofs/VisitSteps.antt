-- The steps of a visit, each with what is done before it.
use Rattle.std.proofs.Common.{◌≡◌, ℕ, zero, suc, ◌+◌, ◌-◌, ◌≤◌, min, arith, take, replicate, Bool, true, false, cond, List, [], ◌∷◌, ◌++◌, length, map, drop, None, Some, IfOk, Result, Ok, Err, refl, sym, ap, ◌∙◌, subst, eq-eqb}
use Rattle.std.specs.Prelude.{option_map, ◌==◌, nat_lt}
use Rattle.std.proofs.lemmas.Bool.{cond_both}
use Rattle.mc_base.specs.Limits.{turn_limit}
use Rattle.mc_base.specs.declared.fate.Fate.{Fate}
use Rattle.board_model.specs.Journal.{Line, put_line, take_line, taken_line, looked, back_line, see_line, Taken, taken, Visit, visit_lines}
use Rattle.board_model.specs.State.{Peer, DomainState, peer_of, held_from}
use Rattle.board_model.specs.Change.{first_put, owed_put, buffers_back, changed}
use Rattle.board_model.specs.TakenFrames.{row_from}
use Rattle.board_model.specs.Deeds.{Deed, looks_back, puts_owed, looks_ahead, takes, after_deed, after_deeds}
use Rattle.board_model.specs.Turn.{due_frames, nameless, takes_named, visit_deeds}
use Rattle.board_model.proofs.DeedJoins.{after-join}
use Rattle.board_model.proofs.LanePeers.{peer_found, peer-changed}
use Rattle.report_text.specs.StepPass.{due_back, due_see, frames_coming, due_takes, due_at, due_visit}
use Rattle.report_check.specs.Meeting.{LinesLeft, Meets}
use Rattle.report_check.specs.NamedStates.{GoesOn, plain}
use Rattle.report_check.specs.declared.named_state.NamedState.{NamedState}
use Rattle.report_check.specs.Doing.{IsDone, PutsDone, TakesDone, owed_first}
use Rattle.report_check.proofs.DoneLemmas.{done-nothing, done-one, done-then, done-missed}
use Rattle.report_check.proofs.OwedPuts.{peer-put}

-- ---- owed frames

pub puts-none : (s : NamedState) (l : LinesLeft) (peer : ℕ) (fs : List (List ℕ)) → fs ≡ [] → PutsDone s s l l peer fs true
puts-none s l peer fs e = subst (λ gs. PutsDone s s l l peer gs true) (sym e) (done-nothing s l)

pub puts-missed : (s t : NamedState) (l m : LinesLeft) (peer : ℕ) (frame : List ℕ) (fs gs : List (List ℕ)) → fs ≡ frame ∷ gs → Meets l m (put_line peer frame ∷ []) false → PutsDone s t l m peer fs false
puts-missed s t l m peer frame fs gs e missed =
    subst (λ hs. PutsDone s t l m peer hs false) (sym e)
    (done-missed s t l m (map (puts_owed peer) (frame ∷ gs)) (put_line peer frame ∷ []) (map (put_line peer) gs) missed)

pub puts-next : {E : Type 0} (s u t : NamedState) (l m n : LinesLeft) (peer most : ℕ) (p : Peer) (frame : List ℕ) (r : Result Bool E) → GoesOn s u (puts_owed peer frame ∷ []) → owed_first most s.state.number p ≡ frame ∷ owed_first (most - 1) s.state.number (first_put p) → Meets l m (put_line peer frame ∷ []) true → IfOk r (λ is. PutsDone u t m n peer (owed_first (most - 1) u.state.number (first_put p)) is) → IfOk r (λ is. PutsDone s t l n peer (owed_first most s.state.number p) is)
puts-next s u t l m n peer most p frame (Err e) at owed met rest = tt
puts-next s u t l m n peer most p frame (Ok is) at owed met rest =
    let gs : List (List ℕ) = owed_first (most - 1) s.state.number (first_put p) in
    subst (λ fs. PutsDone s t l n peer fs is) (sym owed)
    (done-then s u t l m n (puts_owed peer frame ∷ []) (map (puts_owed peer) gs) (put_line peer frame ∷ []) (map (put_line peer) gs) is
    (done-one s u l m (puts_owed peer frame) (put_line peer frame ∷ []) met at)
    (subst (λ d. PutsDone u t m n peer (owed_first (most - 1) d (first_put p)) is) (ap (λ (x : DomainState). x.number) at.plain) rest))

-- ---- frames that are taken

pub takes-missed : (s t : NamedState) (l m : LinesLeft) (peer : ℕ) (frame : List ℕ) (fate : Fate) (fs : List (List ℕ)) → fate ≡ (row_from (plain s) peer None frame).word → Meets l m (take_line peer frame fate ∷ []) false → TakesDone s t l m peer (due_takes (plain s) peer (frame ∷ fs)) false
takes-missed s t l m peer frame fate fs is missed =
    let ts : List Taken = due_takes (plain s) peer (frame ∷ fs) in
    let word : Fate = (row_from (plain s) peer None frame).word in
    done-missed s t l m (takes_named nameless peer ts) (take_line peer frame word ∷ []) (map (taken_line peer) (due_takes (after_deed (plain s) (takes peer None frame word)) peer fs))
    (subst (λ w. Meets l m (take_line peer frame w ∷ []) false) is missed)

pub takes-next : {E : Type 0} (s u t : NamedState) (l m n : LinesLeft) (peer : ℕ) (frame : List ℕ) (fate : Fate) (fs : List (List ℕ)) (r : Result Bool E) → fate ≡ (row_from (plain s) peer None frame).word → GoesOn s u (takes peer None frame fate ∷ []) → Meets l m (take_line peer frame fate ∷ []) true → IfOk r (λ is. TakesDone u t m n peer (due_takes (plain u) peer fs) is) → IfOk r (λ is. TakesDone s t l n peer (due_takes (plain s) peer (frame ∷ fs)) is)
takes-next s u t l m n peer frame fate fs (Err e) is at met rest = tt
takes-next s u t l m n peer frame fate fs (Ok b) is at met rest =
    subst (λ w. TakesDone s t l n peer (taken frame w ∷ due_takes (after_deed (plain s) (takes peer None frame w)) peer fs) b) is
    (done-then s u t l m n (takes peer None frame fate ∷ []) (takes_named nameless peer after) (take_line peer frame fate ∷ []) (map (taken_line peer) after) b
    (done-one s u l m (takes peer None frame fate) (take_line peer frame fate ∷ []) met at)
    (subst (λ x. TakesDone u t m n peer (due_takes x peer fs) b) at.plain rest))
  where
    after : List Taken
    after = due_takes (after_deed (plain s) (takes peer None frame fate)) peer fs

-- ---- what is kept through the looks and puts

pub peer-back : (s : DomainState) (n count : ℕ) (p : Peer) → peer_of s n ≡ Some p → peer_of (after_deed s (looks_back n count)) n ≡ Some (record p { free = p.free + count })
peer-back s n count p e =
    peer_found (changed s (buffers_back n count)) n
    ∙ (peer-changed s (buffers_back n count) n
    ∙ (ap (option_map (λ (q : Peer). cond (n == n) (record q { free = q.free + count }) q)) (sym (peer_found s n) ∙ e)
    ∙ ap (λ b. Some (cond b (record p { free = p.free + count }) p)) (eq-eqb n n refl)))

-- a peer after so many puts
abbrev pub put_all : List (List ℕ) → Peer → Peer
put_all [] p = p
put_all (f ∷ fs) p = put_all fs (first_put p)

pub peer-puts : (s : DomainState) (n : ℕ) (fs : List (List ℕ)) (p : Peer) → peer_of s n ≡ Some p → peer_of (after_deeds s (map (puts_owed n) fs)) n ≡ Some (put_all fs p)
peer-puts s n [] p e = e
peer-puts s n (f ∷ fs) p e = peer-puts (changed s (owed_put n)) n fs (first_put p) (peer-put s n p e)

first-size : (p : Peer) → (first_put p).size ≡ p.size
first-size p = cond_both (length p.announcements == 0) (record p { free = p.free - 1; replies = drop 1 p.replies }) (record p { free = p.free - 1; announcements = drop 1 p.announcements }) (λ q. q.size ≡ p.size) (λ e. refl) (λ e. refl)

first-shown : (p : Peer) → (first_put p).shown ≡ p.shown
first-shown p = cond_both (length p.announcements == 0) (record p { free = p.free - 1; replies = drop 1 p.replies }) (record p { free = p.free - 1; announcements = drop 1 p.announcements }) (λ q. q.shown ≡ p.shown) (λ e. refl) (λ e. refl)

puts-size : (fs : List (List ℕ)) (p : Peer) → (put_all fs p).size ≡ p.size
puts-size [] p = refl
puts-size (f ∷ fs) p = puts-size fs (first_put p) ∙ first-size p

puts-shown : (fs : List (List ℕ)) (p : Peer) → (put_all fs p).shown ≡ p.shown
puts-shown [] p = refl
puts-shown (f ∷ fs) p = puts-shown fs (first_put p) ∙ first-shown p

puts-held : (s : DomainState) (n : ℕ) (fs : List (List ℕ)) → held_from n (after_deeds s (map (puts_owed n) fs)) ≡ held_from n s
puts-held s n [] = refl
puts-held s n (f ∷ fs) = puts-held (changed s (owed_put n)) n fs

-- the look at the frames shows what it would have shown before the puts
pub see-kept : (s : DomainState) (n count told : ℕ) (fs : List (List ℕ)) (p : Peer) → due_see (put_all fs (record p { free = p.free + count })) (held_from n (after_deeds (after_deed s (looks_back n count)) (map (puts_owed n) fs))) told ≡ due_see p (held_from n s) told
see-kept s n count told fs p =
    let q : Peer = record p { free = p.free + count } in
    ap (λ k. cond (nat_lt told k) k (min told ((put_all fs q).size - held_from n (after_deeds (after_deed s (looks_back n count)) (map (puts_owed n) fs))))) (puts-shown fs q)
    ∙ (ap (λ k. cond (nat_lt told p.shown) p.shown (min told (k - held_from n (after_deeds (after_deed s (looks_back n count)) (map (puts_owed n) fs))))) (puts-size fs q)
    ∙ ap (λ k. cond (nat_lt told p.shown) p.shown (min told (p.size - k))) (puts-held (after_deed s (looks_back n count)) n fs))

-- ---- a visit

module _ (z : NamedState) (v : Visit) (p : Peer) (known : peer_of (plain z) v.peer ≡ Some p) where
  abbrev s : DomainState
  s = plain z

  abbrev pub count_back : ℕ
  count_back = due_back p v.back

  abbrev pub owed_frames : List (List ℕ)
  owed_frames = due_frames s.number p count_back

  abbrev pub count_seen : ℕ
  count_seen = due_see p (held_from v.peer s) v.see

  abbrev pub looked_back : DomainState
  looked_back = after_deed s (looks_back v.peer count_back)

  abbrev pub all_put : DomainState
  all_put = after_deeds looked_back (map (puts_owed v.peer) owed_frames)

  abbrev pub looked_ahead : DomainState
  looked_ahead = after_deed all_put (looks_ahead v.peer count_seen)

  abbrev pub taken_frames : List Taken
  taken_frames = due_takes looked_ahead v.peer (frames_coming (min turn_limit count_seen) (map (λ t. t.frame) v.takes))

  abbrev pub made : List Taken → Visit
  made ts = record { peer = v.peer; back = count_back; owed = owed_frames; see = count_seen; takes = ts }

  due-is : due_visit s v ≡ made taken_frames
  due-is =
      ap (due_at s v) known
      ∙ ap (λ x. made (due_takes x v.peer (frames_coming (min turn_limit count_seen) (map (λ t. t.frame) v.takes))))
      (after-join looked_back (map (puts_owed v.peer) owed_frames) (looks_ahead v.peer count_seen ∷ []))

  abbrev pub VisitDone : NamedState → LinesLeft → LinesLeft → Bool → Type 0
  VisitDone t l m is = IsDone z t l m (visit_deeds nameless (due_visit s v)) (visit_lines (due_visit s v)) is

  whole : (t : NamedState) (l m : LinesLeft) (is : Bool) → IsDone z t l m (visit_deeds nameless (made taken_frames)) (visit_lines (made taken_frames)) is → VisitDone t l m is
  whole t l m is h = subst (λ w. IsDone z t l m (visit_deeds nameless w) (visit_lines w) is) (sym due-is) h

  abbrev pub back_lines : List Line
  back_lines = looked (back_line v.peer) count_back

  abbrev pub see_lines : List Line
  see_lines = looked (see_line v.peer) count_seen

  abbrev pub take_lines : List Line
  take_lines = map (taken_line v.peer) taken_frames

  abbrev pub put_lines : List Line
  put_lines = map (put_line v.peer) owed_frames

  abbrev pub put_deeds : List Deed
  put_deeds = map (puts_owed v.peer) owed_frames

  abbrev pub take_deeds : List Deed
  take_deeds = takes_named nameless v.peer taken_frames

  pub back-missed : (t : NamedState) (l m : LinesLeft) → Meets l m back_lines false → VisitDone t l m false
  back-missed t l m missed =
      whole t l m false (done-missed z t l m (visit_deeds nameless (made taken_frames)) back_lines (put_lines ++ (see_lines ++ take_lines)) missed)

  pub owed-missed : (u t : NamedState) (l m k : LinesLeft) → Meets l m back_lines true → GoesOn z u (looks_back v.peer count_back ∷ []) → PutsDone u t m k v.peer owed_frames false → VisitDone t l k false
  owed-missed u t l m k met at missed =
      whole t l k false
      (done-then z u t l m k (looks_back v.peer count_back ∷ []) (put_deeds ++ looks_ahead v.peer count_seen ∷ take_deeds) back_lines (put_lines ++ (see_lines ++ take_lines)) false
      (done-one z u l m (looks_back v.peer count_back) back_lines met at)
      (done-missed u t m k (put_deeds ++ looks_ahead v.peer count_seen ∷ take_deeds) put_lines (see_lines ++ take_lines) missed.lines))

  pub ahead-missed : (u w t : NamedState) (l m k j : LinesLeft) → Meets l m back_lines true → GoesOn z u (looks_back v.peer count_back ∷ []) → PutsDone u w m k v.peer owed_frames true → Meets k j see_lines false → VisitDone t l j false
  ahead-missed u w t l m k j met at put missed =
      whole t l j false
      (done-then z u t l m j (looks_back v.peer count_back ∷ []) (put_deeds ++ looks_ahead v.peer count_seen ∷ take_deeds) back_lines (put_lines ++ (see_lines ++ take_lines)) false
      (done-one z u l m (looks_back v.peer count_back) back_lines met at)
      (done-then u w t m k j put_deeds (looks_ahead v.peer count_seen ∷ take_deeds) put_lines (see_lines ++ take_lines) false put
      (done-missed w t k j (looks_ahead v.peer count_seen ∷ take_deeds) see_lines take_lines missed)))

  pub all-done : (u w x t : NamedState) (l m k j i : LinesLeft) (is : Bool) → Meets l m back_lines true → GoesOn z u (looks_back v.peer count_back ∷ []) → PutsDone u w m k v.peer owed_frames true → Meets k j see_lines true → GoesOn w x (looks_ahead v.peer count_seen ∷ []) → TakesDone x t j i v.peer taken_frames is → VisitDone t l i is
  all-done u w x t l m k j i is met at put seen ahead rest =
      whole t l i is
      (done-then z u t l m i (looks_back v.peer count_back ∷ []) (put_deeds ++ looks_ahead v.peer count_seen ∷ take_deeds) back_lines (put_lines ++ (see_lines ++ take_lines)) is
      (done-one z u l m (looks_back v.peer count_back) back_lines met at)
      (done-then u w t m k i put_deeds (looks_ahead v.peer count_seen ∷ take_deeds) put_lines (see_lines ++ take_lines) is put
      (done-then w x t k j i (looks_ahead v.peer count_seen ∷ []) take_deeds see_lines take_lines is
      (done-one w x k j (looks_ahead v.peer count_seen) see_lines seen ahead)
      rest)))

  -- ---- what the calls of the code ensure, as what is said above

  -- the look at the buffers and the owed frames
  pub code-puts : (count : ℕ) (u w : NamedState) (l m k : LinesLeft) (is : Bool) → count ≡ count_back → GoesOn z u (looks_back v.peer count ∷ []) → Meets l m (looked (back_line v.peer) count) true → ((q : Peer) → peer_of (plain u) v.peer ≡ Some q → PutsDone u w m k v.peer (owed_first turn_limit u.state.number q) is) → Meets l m back_lines true × GoesOn z u (looks_back v.peer count_back ∷ []) × PutsDone u w m k v.peer owed_frames is
  code-puts count u w l m k is same at met puts =
      let goes : GoesOn z u (looks_back v.peer count_back ∷ []) = subst (λ n. GoesOn z u (looks_back v.peer n ∷ [])) same at in
      let state : plain u ≡ looked_back = goes.plain in
      let there : peer_of (plain u) v.peer ≡ Some (record p { free = p.free + count_back }) = ap (λ x. peer_of x v.peer) state ∙ peer-back s v.peer count_back p known in (
        subst (λ n. Meets l m (looked (back_line v.peer) n) true) same met,
        goes,
        subst (λ d. PutsDone u w m k v.peer (owed_first turn_limit d (record p { free = p.free + count_back })) is) (ap (λ (x : DomainState). x.number) state) (puts (record p { free = p.free + count_back }) there),
      )

  -- the look at the frames
  pub code-sees : (seen : ℕ) (u w : NamedState) (m k : LinesLeft) → GoesOn z u (looks_back v.peer count_back ∷ []) → PutsDone u w m k v.peer owed_frames true → ((q : Peer) → peer_of (plain w) v.peer ≡ Some q → seen ≡ due_see q (held_from v.peer (plain w)) v.see) → seen ≡ count_seen
  code-sees seen u w m k at put sees =
      let q : Peer = put_all owed_frames (record p { free = p.free + count_back }) in
      let state : plain w ≡ all_put = (put.state refl).plain ∙ ap (λ x. after_deeds x put_deeds) at.plain in
      let there : peer_of (plain w) v.peer ≡ Some q = ap (λ x. peer_of x v.peer) state ∙ peer-puts looked_back v.peer owed_frames (record p { free = p.free + count_back }) (peer-back s v.peer count_back p known) in
      sees q there
      ∙ (ap (λ x. due_see q (held_from v.peer x) v.see) state
      ∙ see-kept s v.peer count_back v.see owed_frames p)

  -- the frames
  pub code-takes : {E : Type 0} (seen : ℕ) (u w x t : NamedState) (l m k j i : LinesLeft) (fs : List (List ℕ)) (r : Result Bool E) → Meets l m back_lines true → GoesOn z u (looks_back v.peer count_back ∷ []) → PutsDone u w m k v.peer owed_frames true → seen ≡ count_seen → Meets k j (looked (see_line v.peer) seen) true → GoesOn w x (looks_ahead v.peer seen ∷ []) → fs ≡ frames_coming (min turn_limit seen) (map (λ t. t.frame) v.takes) → IfOk r (λ is. TakesDone x t j i v.peer (due_takes (plain x) v.peer fs) is) → IfOk r (λ is. VisitDone t l i is)
  code-takes seen u w x t l m k j i fs (Err e) met at put same seen-met ahead coming rest = tt
  code-takes seen u w x t l m k j i fs (Ok is) met at put same seen-met ahead coming rest =
      let state : plain w ≡ all_put = (put.state refl).plain ∙ ap (λ y. after_deeds y put_deeds) at.plain in
      let showed : plain x ≡ looked_ahead = ahead.plain ∙ (ap (λ n. after_deed (plain w) (looks_ahead v.peer n)) same ∙ ap (λ y. after_deed y (looks_ahead v.peer count_seen)) state) in
      let frames : fs ≡ frames_coming (min turn_limit count_seen) (map (λ t. t.frame) v.takes) = coming ∙ ap (λ n. frames_coming (min turn_limit n) (map (λ t. t.frame) v.takes)) same in
      all-done u w x t l m k j i is met at put
      (subst (λ n. Meets k j (looked (see_line v.peer) n) true) same seen-met)
      (subst (λ n. GoesOn w x (looks_ahead v.peer n ∷ [])) same ahead)
      (subst (λ y. TakesDone x t j i v.peer (due_takes y v.peer (frames_coming (min turn_limit count_seen) (map (λ t. t.frame) v.takes))) is) showed
      (subst (λ gs. TakesDone x t j i v.peer (due_takes (plain x) v.peer gs) is) frames rest))

-- ---- the first frames of those that come

pub coming-less : (m n a b : ℕ) (fs : List (List ℕ)) → m ≤ n → m ≤ a → m ≤ b → take m (take n (fs ++ replicate a (0 ∷ []))) ≡ take m (fs ++ replicate b (0 ∷ []))
coming-less zero n a b fs in_n in_a in_b = refl
coming-less (suc m) zero a b fs in_n in_a in_b = absurd (omega arith)
coming-less (suc m) (suc n) zero b [] in_n in_a in_b = absurd (omega arith)
coming-less (suc m) (suc n) (suc a) zero [] in_n in_a in_b = absurd (omega arith)
coming-less (suc m) (suc n) (suc a) (suc b) [] in_n in_a in_b = ap (λ (gs : List (List ℕ)). (0 ∷ []) ∷ gs) (coming-less m n a b [] (omega arith) (omega arith) (omega arith))
coming-less (suc m) (suc n) a b (f ∷ fs) in_n in_a in_b = ap (λ gs. f ∷ gs) (coming-less m n a b fs (omega arith) (omega arith) (omega arith))
