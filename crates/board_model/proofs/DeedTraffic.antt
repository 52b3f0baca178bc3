-- The frames that the deeds of a turn put and take, and their names.
use Rattle.std.proofs.Common.{◌≡◌, ℕ, ◌+◌, Bool, true, false, cond, List, [], ◌∷◌, ◌++◌, map, length, Option, Some, None, refl, sym, ap, ap₂, ◌∙◌, subst, arith, length-append}
use Rattle.std.specs.Prelude.{◌==◌}
use Rattle.std.specs.List.{AllByRecursion, flat_map}
use Rattle.std.proofs.lemmas.Bool.{eq-eqb, ne_eqb}
use Rattle.std.proofs.lemmas.List.{append_assoc, append-nil, map-append}
use Rattle.std.proofs.lemmas.List.Concat.{flat_map-append}
use Rattle.board_model.specs.declared.scenario.CallLine.{CallLine}
use Rattle.board_model.specs.LinkedBoard.{Differ}
use Rattle.board_model.specs.Journal.{PlainEntry, turned, put, again, waits, called, PlainAnswer, refuses, Visit, Taken}
use Rattle.board_model.specs.State.{DomainState}
use Rattle.board_model.specs.Step.{RunState, next_line, after}
use Rattle.board_model.specs.Traffic.{visits_to, puts_in, takes_in, takes_from, taken_from}
use Rattle.board_model.specs.Deeds.{Deed, looks_back, puts_owed, looks_ahead, takes, after_deed, after_deeds, along}
use Rattle.board_model.specs.Turn.{takes_named, visit_deeds}
use Rattle.board_model.specs.JournalDeeds.{names_from, named_deeds, call_deeds, entry_deeds, deeds_along}
use Rattle.board_model.proofs.DeedRuns.{taken_by, count_taken, AreNamed, frames_if, puts_by, takes_by}
use Rattle.board_model.proofs.MessageAlls.{all-with}
use Rattle.board_model.proofs.ListsApart.{all-unmap}
use Rattle.board_model.proofs.DeedJoins.{along-join}

frames_of : List Taken → List (List ℕ)
frames_of ts = map (λ t. t.frame) ts

none_if : (b : Bool) → frames_if b [] ≡ []
none_if true = refl
none_if false = refl

one_if : (b : Bool) (f : List ℕ) (fs : List (List ℕ)) → frames_if b (f ∷ []) ++ frames_if b fs ≡ frames_if b (f ∷ fs)
one_if true f fs = refl
one_if false f fs = refl

-- ---- frames of one peer

module _ (p : ℕ) where
  puts_put : (q : ℕ) (fs : List (List ℕ)) (s : DomainState) → along (puts_by p) s (map (puts_owed q) fs) ≡ frames_if (q == p) fs
  puts_put q [] s = sym (none_if (q == p))
  puts_put q (f ∷ fs) s = ap (λ k. frames_if (q == p) (f ∷ []) ++ k) (puts_put q fs (after_deed s (puts_owed q f))) ∙ one_if (q == p) f fs

  takes_put : (q : ℕ) (m : ℕ → Option ℕ) (ts : List Taken) (s : DomainState) → along (puts_by p) s (takes_named m q ts) ≡ []
  takes_put q m [] s = refl
  takes_put q m (t ∷ ts) s = takes_put q (λ k. m (k + 1)) ts (after_deed s (takes q (m 0) t.frame t.fate))

  puts_take : (q : ℕ) (fs : List (List ℕ)) → flat_map (takes_by p) (map (puts_owed q) fs) ≡ []
  puts_take q [] = refl
  puts_take q (f ∷ fs) = puts_take q fs

  takes_take : (q : ℕ) (m : ℕ → Option ℕ) (ts : List Taken) → flat_map (takes_by p) (takes_named m q ts) ≡ frames_if (q == p) (map (λ t. t.frame) ts)
  takes_take q m [] = sym (none_if (q == p))
  takes_take q m (t ∷ ts) = ap (λ k. frames_if (q == p) (t.frame ∷ []) ++ k) (takes_take q (λ k. m (k + 1)) ts) ∙ one_if (q == p) t.frame (map (λ u. u.frame) ts)

  -- ---- a visit

  visit_put : (m : ℕ → Option ℕ) (v : Visit) (s : DomainState) → along (puts_by p) s (visit_deeds m v) ≡ frames_if (v.peer == p) v.owed
  visit_put m v s =
      let t : DomainState = after_deed s (looks_back v.peer v.back) in
      along-join (puts_by p) t (map (puts_owed v.peer) v.owed) (looks_ahead v.peer v.see ∷ takes_named m v.peer v.takes)
      ∙ (ap (λ k. along (puts_by p) t (map (puts_owed v.peer) v.owed) ++ k) (takes_put v.peer m v.takes (after_deed (after_deeds t (map (puts_owed v.peer) v.owed)) (looks_ahead v.peer v.see)))
      ∙ (append-nil (along (puts_by p) t (map (puts_owed v.peer) v.owed)) ∙ puts_put v.peer v.owed t))

  visit_take : (m : ℕ → Option ℕ) (v : Visit) → flat_map (takes_by p) (visit_deeds m v) ≡ frames_if (v.peer == p) (map (λ t. t.frame) v.takes)
  visit_take m v =
      flat_map-append (takes_by p) (map (puts_owed v.peer) v.owed) (looks_ahead v.peer v.see ∷ takes_named m v.peer v.takes)
      ∙ (ap (λ k. k ++ flat_map (takes_by p) (takes_named m v.peer v.takes)) (puts_take v.peer v.owed) ∙ takes_take v.peer m v.takes)

  -- ---- a turn

  more_puts : (b : Bool) (v : Visit) (vs : List Visit) → frames_if b v.owed ++ flat_map (λ w. w.owed) vs ≡ flat_map (λ w. w.owed) (cond b (v ∷ vs) vs)
  more_puts true v vs = refl
  more_puts false v vs = refl

  more_takes : (b : Bool) (v : Visit) (vs : List Visit) → frames_if b (map (λ t. t.frame) v.takes) ++ map (λ t. t.frame) (flat_map (λ w. w.takes) vs) ≡ map (λ t. t.frame) (flat_map (λ w. w.takes) (cond b (v ∷ vs) vs))
  more_takes true v vs = sym (map-append (λ t. t.frame) v.takes (flat_map (λ w. w.takes) vs))
  more_takes false v vs = refl

  pub turn-put : (before : List PlainEntry) (vs : List Visit) (s : DomainState) → along (puts_by p) s (flat_map (named_deeds before) vs) ≡ puts_in p (turned vs)
  turn-put before [] s = refl
  turn-put before (v ∷ vs) s =
      along-join (puts_by p) s (named_deeds before v) (flat_map (named_deeds before) vs)
      ∙ (ap₂ (λ a b. a ++ b) (visit_put (names_from (length (taken_from v.peer before))) v s) (turn-put before vs (after_deeds s (named_deeds before v))) ∙ more_puts (v.peer == p) v (visits_to p vs))

  turn_take : (before : List PlainEntry) (vs : List Visit) → flat_map (takes_by p) (flat_map (named_deeds before) vs) ≡ map (λ t. t.frame) (takes_in p (turned vs))
  turn_take before [] = refl
  turn_take before (v ∷ vs) =
      flat_map-append (takes_by p) (named_deeds before v) (flat_map (named_deeds before) vs)
      ∙ (ap₂ (λ a b. a ++ b) (visit_take (names_from (length (taken_from v.peer before))) v) (turn_take before vs) ∙ more_takes (v.peer == p) v (visits_to p vs))

  -- ---- entries

  call_take : (o : Option CallLine) (r : RunState) (a : PlainAnswer) → flat_map (takes_by p) (call_deeds o r a) ≡ []
  call_take None r a = refl
  call_take (Some line) r a = refl

  pub entry-take : (lines : List CallLine) (before : List PlainEntry) (r : RunState) (e : PlainEntry) → flat_map (takes_by p) (entry_deeds lines before r e) ≡ map (λ t. t.frame) (takes_in p e)
  entry-take lines before r (turned vs) = turn_take before vs
  entry-take lines before r (put q frame) = refl
  entry-take lines before r (again word) = call_take (next_line lines r) r (refuses word)
  entry-take lines before r (waits k) = refl
  entry-take lines before r (called k a) = call_take (next_line lines r) r a

  pub run-takes : (lines : List CallLine) (before : List PlainEntry) (r : RunState) (es : List PlainEntry) → flat_map (takes_by p) (deeds_along lines before r es) ≡ taken_from p es
  run-takes lines before r [] = refl
  run-takes lines before r (e ∷ es) =
      flat_map-append (takes_by p) (entry_deeds lines before r e) (deeds_along lines (before ++ e ∷ []) (after lines r e) es)
      ∙ (ap₂ (λ a b. a ++ b) (entry-take lines before r e) (run-takes lines (before ++ e ∷ []) (after lines r e) es)
      ∙ sym (map-append (λ t. t.frame) (takes_in p e) (takes_from p es)))

  -- ---- how many are taken

  pub count-join : (xs ys : List Deed) → count_taken p (xs ++ ys) ≡ count_taken p xs + count_taken p ys
  count-join [] ys = omega arith
  count-join (x ∷ xs) ys = omega (arith, count-join xs ys)

  length_if : (b : Bool) (f : List ℕ) → cond b 1 0 ≡ length (frames_if b (f ∷ []))
  length_if true f = refl
  length_if false f = refl

  count_one : (d : Deed) → taken_by p d ≡ length (takes_by p d)
  count_one (takes q m frame word) = length_if (q == p) frame
  count_one other = refl

  pub count-takes : (ds : List Deed) → count_taken p ds ≡ length (flat_map (takes_by p) ds)
  count-takes [] = refl
  count-takes (d ∷ ds) = omega (arith, count_one d, count-takes ds, length-append (takes_by p d) (flat_map (takes_by p) ds))

  -- none is taken from another peer
  count_other : (m : ℕ → Option ℕ) (v : Visit) → (v.peer == p) ≡ false → count_taken p (visit_deeds m v) ≡ 0
  count_other m v other = count-takes (visit_deeds m v) ∙ ap length (visit_take m v) ∙ ap (λ b. length (frames_if b (map (λ t. t.frame) v.takes))) other

-- ---- names

pub named-join : (before xs ys : List Deed) → AreNamed before xs → AreNamed (before ++ xs) ys → AreNamed before (xs ++ ys)
named-join before [] ys front rest = subst (λ b. AreNamed b ys) (append-nil before) rest
named-join before (x ∷ xs) ys front rest = (front.0, named-join (before ++ x ∷ []) xs ys front.1 (subst (λ b. AreNamed b ys) (sym (append_assoc before (x ∷ []) xs)) rest))

puts_named : (q : ℕ) (fs : List (List ℕ)) (before : List Deed) → AreNamed before (map (puts_owed q) fs)
puts_named q [] before = tt
puts_named q (f ∷ fs) before = (tt, puts_named q fs (before ++ puts_owed q f ∷ []))

count_here : (q : ℕ) (name : Option ℕ) (t : Taken) → count_taken q (takes q name t.frame t.fate ∷ []) ≡ 1
count_here q name t = let itself : (q == q) ≡ true = eq-eqb q q refl in rw itself (omega arith)

takes_are_named : (q m : ℕ) (name : ℕ → Option ℕ) (ts : List Taken) (before : List Deed) → ((k : ℕ) → name k ≡ Some (m + k)) → m ≡ count_taken q before → AreNamed before (takes_named name q ts)
takes_are_named q m name [] before so is = tt
takes_are_named q m name (t ∷ ts) before so is = (
  so 0 ∙ ap Some (let here : m + 0 ≡ count_taken q before = omega (arith, is) in here),
  takes_are_named q (m + 1) (λ k. name (k + 1)) ts (before ++ takes q (name 0) t.frame t.fate ∷ [])
      (λ k. so (k + 1) ∙ ap Some (let same : m + (k + 1) ≡ m + 1 + k = omega arith in same))
      (omega (arith, is, count-join q before (takes q (name 0) t.frame t.fate ∷ []), count_here q (name 0) t)),
)

count_put : (q p : ℕ) (fs : List (List ℕ)) → count_taken q (map (puts_owed p) fs) ≡ 0
count_put q p [] = refl
count_put q p (f ∷ fs) = omega (arith, count_put q p fs)

visit_named : (m : ℕ) (v : Visit) (before : List Deed) → m ≡ count_taken v.peer before → AreNamed before (visit_deeds (names_from m) v)
visit_named m v before is = (
  tt,
  named-join (before ++ looks_back v.peer v.back ∷ []) (map (puts_owed v.peer) v.owed) (looks_ahead v.peer v.see ∷ takes_named (names_from m) v.peer v.takes)
      (puts_named v.peer v.owed (before ++ looks_back v.peer v.back ∷ [])) (
        tt,
        takes_are_named v.peer m (names_from m) v.takes (((before ++ looks_back v.peer v.back ∷ []) ++ map (puts_owed v.peer) v.owed) ++ looks_ahead v.peer v.see ∷ []) (λ k. refl)
            (omega (arith, is, count-join v.peer ((before ++ looks_back v.peer v.back ∷ []) ++ map (puts_owed v.peer) v.owed) (looks_ahead v.peer v.see ∷ []), count-join v.peer (before ++ looks_back v.peer v.back ∷ []) (map (puts_owed v.peer) v.owed), count-join v.peer before (looks_back v.peer v.back ∷ []), count_put v.peer v.peer v.owed)),
      ),
)

-- each peer is visited once in a turn
pub turn-named : (entries : List PlainEntry) (vs : List Visit) (before : List Deed) → Differ (map (λ v. v.peer) vs) → AllByRecursion (λ v. length (taken_from v.peer entries) ≡ count_taken v.peer before) vs → AreNamed before (flat_map (named_deeds entries) vs)
turn-named entries [] before differ counts = tt
turn-named entries (v ∷ vs) before differ counts =
    named-join before (named_deeds entries v) (flat_map (named_deeds entries) vs)
    (visit_named (length (taken_from v.peer entries)) v before counts.0)
    (turn-named entries vs (before ++ named_deeds entries v) differ.1
    (all-with (λ w. w.peer ≡ v.peer → ⊥) (λ w. length (taken_from w.peer entries) ≡ count_taken w.peer before) (λ w. length (taken_from w.peer entries) ≡ count_taken w.peer (before ++ named_deeds entries v)) later vs
    (all-unmap (λ n. n ≡ v.peer → ⊥) (λ w. w.peer) vs differ.0) counts.1))
  where
    later : (w : Visit) → (w.peer ≡ v.peer → ⊥) → length (taken_from w.peer entries) ≡ count_taken w.peer before → length (taken_from w.peer entries) ≡ count_taken w.peer (before ++ named_deeds entries v)
    later w other same = omega (arith, same, count-join w.peer before (named_deeds entries v), count_other w.peer (names_from (length (taken_from v.peer entries))) v (ne_eqb v.peer w.peer (λ e. other (sym e))))
