-- What is left of the lanes to a domain after one more line of its journal, and which line fits what is left.
use Rattle.std.proofs.Common.{◌≡◌, ◌≢◌, ℕ, ◌+◌, ◌-◌, ◌<◌, ◌≤◌, Bool, true, false, cond, List, [], ◌∷◌, ◌++◌, length, map, drop, take, Option, Some, None, refl, sym, ap, ap₂, ◌∙◌, subst, arith, zero, suc, drop-drop, length-drop}
use Rattle.std.specs.Prelude.{find, nat_le, slice_get, slice_set, ◌==◌}
use Rattle.std.specs.List.{flat_map}
use Rattle.std.proofs.lemmas.Bool.{eqb-true, eqb-false, ne_eqb, eq-eqb}
use Rattle.std.proofs.lemmas.Bool.Decides.{nat_tests}
use Rattle.std.proofs.lemmas.List.Sums.{sum_by_push}
use Rattle.std.proofs.lemmas.Option.{slice_get_within}
use Rattle.board_model.specs.declared.scenario.Scenario.{Scenario}
use Rattle.board_model.specs.Board.{DomainJournal, given_by}
use Rattle.report_text.specs.declared.link_pass.Left.{Left}
use Rattle.report_text.specs.JournalRead.{JournalText}
use Rattle.report_text.specs.LaneLines.{LaneLine, came_back, puts, shows, takes, nothing, back_in, put_in, taken_in}
use Rattle.report_text.specs.LinkPass.{journal_told, gives_back, lanes_in, frames_put, taken_before, back_before, is_frame, fits}
use Rattle.report_text.specs.Texts.{longest_line}
use Rattle.report_text.specs.JournalLanes.{frames_at}
use Rattle.report_text.specs.LaneLeft.{left_of, IsTaken, TakesNext, IsLeft, AreLeft, HasFew, HasCome, ComesBack, Changes, IsReady, AreReady}

-- ---- lists

module _ {X : Type 0} where
  drop-more : (n : ℕ) (xs : List X) → drop 1 (drop n xs) ≡ drop (n + 1) xs
  drop-more n xs = drop-drop 1 n xs

  drop-first : (n : ℕ) (xs : List X) → slice_get (drop n xs) 0 ≡ slice_get xs n
  drop-first zero xs = refl
  drop-first (suc n) [] = refl
  drop-first (suc n) (x ∷ xs) = drop-first n xs

  get-set : (xs : List X) (i : ℕ) (x y : X) → slice_get xs i ≡ Some x → slice_get (slice_set xs i y) i ≡ Some y
  get-set [] i x y e = absurd cc
  get-set (z ∷ xs) zero x y e = refl
  get-set (z ∷ xs) (suc i) x y e = get-set xs i x y e

  pub got-set : (xs : List X) (i : ℕ) (x y : X) → slice_get (slice_set xs i y) i ≡ Some x → y ≡ x
  got-set [] i x y e = absurd cc
  got-set (z ∷ xs) zero x y e = cc
  got-set (z ∷ xs) (suc i) x y e = got-set xs i x y e

  pub get-other : (xs : List X) (i j : ℕ) (y : X) → j ≢ i → slice_get (slice_set xs i y) j ≡ slice_get xs j
  get-other [] i j y other = refl
  get-other (z ∷ xs) zero zero y other = absurd (other refl)
  get-other (z ∷ xs) zero (suc j) y other = refl
  get-other (z ∷ xs) (suc i) zero y other = refl
  get-other (z ∷ xs) (suc i) (suc j) y other = get-other xs i j y (λ e. other (ap suc e))

not-both : (b : Bool) → b ≡ true → b ≡ false → ⊥
not-both b is not = absurd cc

pub whole : {X : Type 0} (n : ℕ) (xs : List X) → length xs ≤ n → take n xs ≡ xs
whole zero [] few = refl
whole zero (x ∷ xs) few = absurd (omega (arith, few))
whole (suc n) [] few = refl
whole (suc n) (x ∷ xs) few = ap (λ (ys : List _). x ∷ ys) (whole n xs (omega (arith, few)))

some-same : {X : Type 0} (x y : X) → Some x ≡ Some y → x ≡ y
some-same x y e = cc

-- a line of which no other domain's journal has to tell
abbrev pub IsQuiet : LaneLine → Type 0
IsQuiet nothing = Unit {0}
IsQuiet (puts p frame) = Unit {0}
IsQuiet other = ⊥

-- ---- domains that are not there

far-journals : (js : List JournalText) (p : ℕ) → HasFew js → 8 ≤ p → find (λ (j : JournalText). j.line.domain == p) js ≡ None
far-journals [] p few far = refl
far-journals (j ∷ js) p few far =
    ap (λ b. cond b (Some j) (find (λ (j : JournalText). j.line.domain == p) js)) (ne_eqb j.line.domain p (λ e. omega (arith, e, few.0, far)))
    ∙ far-journals js p few.1 far

far-told : (s : Scenario) (js : List JournalText) (p : ℕ) → HasFew js → 8 ≤ p → find (λ (j : DomainJournal). j.line.domain == p) (map (journal_told s) js) ≡ None
far-told s [] p few far = refl
far-told s (j ∷ js) p few far =
    ap (λ b. cond b (Some (journal_told s j)) (find (λ (j : DomainJournal). j.line.domain == p) (map (journal_told s) js))) (ne_eqb j.line.domain p (λ e. omega (arith, e, few.0, far)))
    ∙ far-told s js p few.1 far

far-frames : (js : List JournalText) (p to : ℕ) → HasFew js → 8 ≤ p → frames_put js p to ≡ []
far-frames js p to few far = ap (λ o. flat_map (put_in to) (lanes_in o)) (far-journals js p few far)

far-given : (s : Scenario) (js : List JournalText) (p to : ℕ) → HasFew js → 8 ≤ p → gives_back s js p to ≡ 0
far-given s js p to few far = ap (λ o. given_by s o to) (far-told s js p few far)

-- ---- one line more

taken-more : (p : ℕ) (before : List LaneLine) (l : LaneLine) → taken_before p (before ++ l ∷ []) ≡ taken_before p before + taken_in p l
taken-more p before l = sum_by_push (taken_in p) before l

back-more : (p : ℕ) (before : List LaneLine) (l : LaneLine) → back_before p (before ++ l ∷ []) ≡ back_before p before + back_in p l
back-more p before l = sum_by_push (back_in p) before l

module _ (s : Scenario) (js : List JournalText) (to : ℕ) (before : List LaneLine) where
  -- a line that says nothing of the lane from a peer
  still : (line : LaneLine) (q : ℕ) (l : Left) → taken_in q line ≡ 0 → back_in q line ≡ 0 → IsLeft s js to before q l → IsLeft s js to (before ++ line ∷ []) q l
  still line q l taken back is =
      let same : taken_before q (before ++ line ∷ []) ≡ taken_before q before = omega (arith, taken-more q before line, taken) in
      record {
        frames = is.frames ∙ sym (ap (λ n. drop n (frames_put js q to)) same);
        few = omega (arith, is.few, same);
        count = is.count;
        given = omega (arith, is.given, back-more q before line, back);
      }

  module _ (ls : List Left) (left : AreLeft s js to before ls) where
    -- a line that says nothing of any lane
    all-still : (line : LaneLine) → ((q : ℕ) → taken_in q line ≡ 0) → ((q : ℕ) → back_in q line ≡ 0) → AreLeft s js to (before ++ line ∷ []) ls
    all-still line taken back = record {
      each = λ q l at. still line q l (taken q) (back q) (left.each q l at);
      none_taken = λ q far. omega (arith, left.none_taken q far, taken-more q before line, taken q);
      none_back = λ q far. omega (arith, left.none_back q far, back-more q before line, back q);
    }

    pub nothing-left : AreLeft s js to (before ++ nothing ∷ []) ls
    nothing-left = all-still nothing (λ q. refl) (λ q. refl)

    pub puts-left : (p : ℕ) (frame : List ℕ) → AreLeft s js to (before ++ puts p frame ∷ []) ls
    puts-left p frame = all-still (puts p frame) (λ q. refl) (λ q. refl)

    pub shows-left : (p n : ℕ) → AreLeft s js to (before ++ shows p n ∷ []) ls
    shows-left p n = all-still (shows p n) (λ q. refl) (λ q. refl)

    -- with the lane from one peer changed
    changed : (line : LaneLine) (p : ℕ) (old new : Left) → p < 8 → slice_get ls p ≡ Some old → ((q : ℕ) → q ≢ p → taken_in q line ≡ 0) → ((q : ℕ) → q ≢ p → back_in q line ≡ 0) → IsLeft s js to (before ++ line ∷ []) p new
        → AreLeft s js to (before ++ line ∷ []) (slice_set ls p new)
    changed line p old new near at taken back is = record {
      each = λ q l at-q. by q l at-q (p == q) refl;
      none_taken = λ q far. let other : q ≢ p = λ e. omega (arith, e, near, far) in omega (arith, left.none_taken q far, taken-more q before line, taken q other);
      none_back = λ q far. let other : q ≢ p = λ e. omega (arith, e, near, far) in omega (arith, left.none_back q far, back-more q before line, back q other);
    }
      where
        by : (q : ℕ) (l : Left) → slice_get (slice_set ls p new) q ≡ Some l → (b : Bool) → (p == q) ≡ b → IsLeft s js to (before ++ line ∷ []) q l
        by q l at-q true e =
            let same : p ≡ q = eqb-true p q e in
            let got : slice_get (slice_set ls p new) p ≡ Some l = ap (slice_get (slice_set ls p new)) same ∙ at-q in
            let is-l : new ≡ l = some-same new l (sym (get-set ls p old new at) ∙ got) in
            subst (λ (n : ℕ). IsLeft s js to (before ++ line ∷ []) n l) same (subst (λ (x : Left). IsLeft s js to (before ++ line ∷ []) p x) is-l is)
        by q l at-q false e =
            let other : q ≢ p = λ same. eqb-false p q e (sym same) in
            still line q l (taken q other) (back q other) (left.each q l (sym (get-other ls p q new other) ∙ at-q))

    pub takes-left : (p : ℕ) (frame : List ℕ) (old new : Left) → p < 8 → slice_get ls p ≡ Some old → IsTaken to frame old new → AreLeft s js to (before ++ takes p frame ∷ []) (slice_set ls p new)
    takes-left p frame old new near at took =
        changed (takes p frame) p old new near at (λ q other. ap (λ b. cond b 1 0) (ne_eqb p q (λ e. other (sym e)))) (λ q other. refl)
        (record {
          frames = took.frames ∙ ap (drop 1) is.frames ∙ drop-more (taken_before p before) (frames_put js p to) ∙ sym (ap (λ n. drop n (frames_put js p to)) more);
          few = omega (arith, more, below);
          count = took.count;
          given = omega (arith, is.given, took.given, back-more p before (takes p frame));
        })
      where
        is : IsLeft s js to before p old
        is = left.each p old at

        more : taken_before p (before ++ takes p frame ∷ []) ≡ taken_before p before + 1
        more = taken-more p before (takes p frame) ∙ ap (λ b. taken_before p before + cond b 1 0) (eq-eqb p p refl)

        there : (o : Option (List ℕ)) → is_frame frame o ≡ true → slice_get (frames_put js p to) (taken_before p before) ≡ o → taken_before p before < length (frames_put js p to)
        there None e at = absurd cc
        there (Some f) e at = slice_get_within (frames_put js p to) (taken_before p before) f at

        below : taken_before p before < length (frames_put js p to)
        below = there (slice_get (left_of to old) 0) took.next (sym (ap (λ fs. slice_get fs 0) is.frames ∙ drop-first (taken_before p before) (frames_put js p to)))

    pub back-left : (p n : ℕ) (old new : Left) → p < 8 → slice_get ls p ≡ Some old → HasCome n old new → AreLeft s js to (before ++ came_back p n ∷ []) (slice_set ls p new)
    back-left p n old new near at came =
        changed (came_back p n) p old new near at (λ q other. refl) (λ q other. ap (λ b. cond b n 0) (ne_eqb p q (λ e. other (sym e))))
        (record {
          frames = same ∙ is.frames ∙ sym (ap (λ n. drop n (frames_put js p to)) kept);
          few = omega (arith, is.few, kept);
          count = came.count ∙ is.count ∙ ap length (sym same);
          given = omega (arith, is.given, came.given, back-more p before (came_back p n), itself);
        })
      where
        is : IsLeft s js to before p old
        is = left.each p old at

        same : left_of to new ≡ left_of to old
        same = ap₂ (λ (t : _) (ls : _). frames_at to t.now ls.now) came.text came.puts

        kept : taken_before p (before ++ came_back p n ∷ []) ≡ taken_before p before
        kept = omega (arith, taken-more p before (came_back p n))

        itself : back_in p (came_back p n) ≡ n
        itself = ap (λ b. cond b n 0) (eq-eqb p p refl)

    -- ---- what fits

    pub takes-fits : (p : ℕ) (frame : List ℕ) (l : Left) → slice_get ls p ≡ Some l → fits s js to before (takes p frame) ≡ is_frame frame (slice_get (left_of to l) 0)
    takes-fits p frame l at =
        let is : IsLeft s js to before p l = left.each p l at in
        sym (ap (is_frame frame) (ap (λ fs. slice_get fs 0) is.frames ∙ drop-first (taken_before p before) (frames_put js p to)))

    -- a line that fits whatever is left
    pub quiet-left : (line : LaneLine) → IsQuiet line → AreLeft s js to (before ++ line ∷ []) ls
    quiet-left nothing is = nothing-left
    quiet-left (puts p frame) is = puts-left p frame
    quiet-left (came_back p n) is = absurd is
    quiet-left (shows p n) is = absurd is
    quiet-left (takes p frame) is = absurd is

    pub quiet-fits : (line : LaneLine) → IsQuiet line → true ≡ fits s js to before line
    quiet-fits nothing is = refl
    quiet-fits (puts p frame) is = refl
    quiet-fits (came_back p n) is = absurd is
    quiet-fits (shows p n) is = absurd is
    quiet-fits (takes p frame) is = absurd is

    -- where there is no domain of that number
    pub far-left : (line : LaneLine) (p : ℕ) → 8 ≤ p → ((q : ℕ) → q ≢ p → taken_in q line ≡ 0) → ((q : ℕ) → q ≢ p → back_in q line ≡ 0) → taken_in p line ≡ 0 → back_in p line ≡ 0 → AreLeft s js to (before ++ line ∷ []) ls
    far-left line p far taken back none-taken none-back =
        all-still line (λ q. go q (λ n. taken_in n line ≡ 0) taken none-taken) (λ q. go q (λ n. back_in n line ≡ 0) back none-back)
      where
        go : (q : ℕ) (P : ℕ → Type 0) → ((q : ℕ) → q ≢ p → P q) → P p → P q
        go q P others at-p = by (p == q) refl
          where
            by : (b : Bool) → (p == q) ≡ b → P q
            by true e = subst P (eqb-true p q e) at-p
            by false e = others q (λ same. eqb-false p q e (sym same))

    pub shows-fits : (p n : ℕ) (l : Left) → slice_get ls p ≡ Some l → nat_le n l.count ≡ fits s js to before (shows p n)
    shows-fits p n l at =
        let is : IsLeft s js to before p l = left.each p l at in
        let count : l.count ≡ length (frames_put js p to) - taken_before p before = is.count ∙ ap length is.frames ∙ length-drop (taken_before p before) (frames_put js p to) in
        let few = is.few in
        grind (arith, nat_tests)

    pub back-fits : (p n : ℕ) (l : Left) → slice_get ls p ≡ Some l → fits s js to before (came_back p n) ≡ nat_le n l.given
    back-fits p n l at =
        let is : IsLeft s js to before p l = left.each p l at in
        let all = is.given in
        grind (arith, nat_tests)

    -- ---- a line with the change that it makes

    pub take-step : (p : ℕ) (frame : List ℕ) (old : Left) (o : Option Left) (ls' : List Left) (is : Bool) → p < 8 → slice_get ls p ≡ Some old → TakesNext to frame old o → Changes p o ls ls' is
        → (is ≡ fits s js to before (takes p frame)) × (is ≡ true → AreLeft s js to (before ++ takes p frame ∷ []) ls')
    take-step p frame old None ls' is near at took changes = (changes.0 ∙ sym (takes-fits p frame old at ∙ took), λ so. absurd (not-both is so changes.0))
    take-step p frame old (Some new) ls' is near at took changes =
        (changes.0 ∙ sym (takes-fits p frame old at ∙ took.next), λ so. subst (λ (xs : List Left). AreLeft s js to (before ++ takes p frame ∷ []) xs) (sym changes.1) (takes-left p frame old new near at took))

    pub back-step : (p n : ℕ) (old : Left) (o : Option Left) (ls' : List Left) (is : Bool) → p < 8 → slice_get ls p ≡ Some old → ComesBack n old o → Changes p o ls ls' is
        → (is ≡ fits s js to before (came_back p n)) × (is ≡ true → AreLeft s js to (before ++ came_back p n ∷ []) ls')
    back-step p n old None ls' is near at came changes = (changes.0 ∙ sym (back-fits p n old at ∙ less), λ so. absurd (not-both is so changes.0))
      where
        less : nat_le n old.given ≡ false
        less = grind (arith, nat_tests)
    back-step p n old (Some new) ls' is near at came changes =
        (changes.0 ∙ sym (back-fits p n old at ∙ enough), λ so. subst (λ (xs : List Left). AreLeft s js to (before ++ came_back p n ∷ []) xs) (sym changes.1) (back-left p n old new near at came))
      where
        enough : nat_le n old.given ≡ true
        enough = let all = came.given in grind (arith, nat_tests)

    module _ (few : HasFew js) (p : ℕ) (far : 8 ≤ p) where
      pub takes-far : (frame : List ℕ) → false ≡ fits s js to before (takes p frame)
      takes-far frame = sym (ap (λ fs. is_frame frame (slice_get fs (taken_before p before))) (far-frames js p to few far))

      pub shows-far : (n : ℕ) → (n == 0) ≡ fits s js to before (shows p n)
      shows-far n =
          let none = left.none_taken p far in
          let no-frames : length (frames_put js p to) ≡ 0 = ap length (far-frames js p to few far) in
          grind (arith, nat_tests)

      pub back-far : (n : ℕ) → (n == 0) ≡ fits s js to before (came_back p n)
      back-far n =
          let none = left.none_back p far in
          let no-buffers = far-given s js p to few far in
          grind (arith, nat_tests)

-- ---- what is counted

ready-set : (room to : ℕ) (ls : List Left) (p : ℕ) (old new : Left) → slice_get ls p ≡ Some old → AreReady room to ls → IsReady room to new → AreReady room to (slice_set ls p new)
ready-set room to ls p old new at ready is q l at-q = by (p == q) refl
  where
    by : (b : Bool) → (p == q) ≡ b → IsReady room to l
    by true e =
        let same : p ≡ q = eqb-true p q e in
        subst (λ (x : Left). IsReady room to x) (some-same new l (sym (get-set ls p old new at) ∙ ap (slice_get (slice_set ls p new)) same ∙ at-q)) is
    by false e = ready q l (sym (get-other ls p q new (λ same. eqb-false p q e (sym same))) ∙ at-q)

pub take-ready : (room to p : ℕ) (frame : List ℕ) (ls ls' : List Left) (old : Left) (o : Option Left) (is : Bool) → slice_get ls p ≡ Some old → AreReady room to ls → TakesNext to frame old o → Changes p o ls ls' is → is ≡ true → AreReady room to ls'
take-ready room to p frame ls ls' old None is at ready took changes so = absurd (not-both is so changes.0)
take-ready room to p frame ls ls' old (Some new) is at ready took changes so =
    let was : IsReady room to old = ready p old at in
    subst (λ (xs : List Left). AreReady room to xs) (sym changes.1) (ready-set room to ls p old new at ready (record { line = subst (λ (t : _). longest_line t.now ≤ room) (sym took.text) was.line; count = took.count }))

pub back-ready : (room to p n : ℕ) (ls ls' : List Left) (old : Left) (o : Option Left) (is : Bool) → slice_get ls p ≡ Some old → AreReady room to ls → ComesBack n old o → Changes p o ls ls' is → is ≡ true → AreReady room to ls'
back-ready room to p n ls ls' old None is at ready came changes so = absurd (not-both is so changes.0)
back-ready room to p n ls ls' old (Some new) is at ready came changes so =
    let was : IsReady room to old = ready p old at in
    subst (λ (xs : List Left). AreReady room to xs) (sym changes.1)
    (ready-set room to ls p old new at ready (record {
      line = subst (λ (t : _). longest_line t.now ≤ room) (sym came.text) was.line;
      count = came.count ∙ was.count ∙ ap₂ (λ (t : _) (ls : _). length (frames_at to t.now ls.now)) (sym came.text) (sym came.puts);
    }))
