-- An idle turn, one in which no line is due, leaves the state as it is.
use Rattle.std.proofs.Common.{◌≡◌, ℕ, ◌+◌, ◌-◌, ◌≤◌, Bool, true, false, cond, List, [], ◌∷◌, ◌++◌, length, map, Option, Some, None, refl, sym, ap, ◌∙◌, arith}
use Rattle.std.specs.Prelude.{min, nat_lt, find, ◌==◌}
use Rattle.std.specs.List.{AllByRecursion, flat_map}
use Rattle.std.proofs.Common.{Bor}
use Rattle.report_check.specs.declared.told_turn.ToldTurn.{ToldTurn}
use Rattle.report_check.specs.ToldTurns.{AreShort, HasShortLines}
use Rattle.std.proofs.lemmas.Bool.Decides.{nat_tests}
use Rattle.board_model.specs.Lists.{changed_first}
use Rattle.board_model.specs.Journal.{Visit, Line, back_line, put_line, see_line, looked, taken_line, visit_lines}
use Rattle.board_model.specs.State.{DomainState, Peer, is_numbered, peer_of, held_from}
use Rattle.board_model.specs.Turn.{after_visit, after_turn}
use Rattle.board_model.specs.Unjoined.{visit_in}
use Rattle.board_model.proofs.LanePeers.{peer_found}
use Rattle.report_text.specs.TextLines.{first_other, moved}
use Rattle.board_model.specs.Report.{line_text}
use Rattle.report_text.specs.StepPass.{due_see, due_at, due_visit, due_visits, idle_visits}
use Rattle.report_check.specs.Meeting.{LinesLeft, Meets}

-- ---- lists that are empty

length-none : {X : Type 0} (xs : List X) → (length xs == 0) ≡ true → xs ≡ []
length-none [] e = refl
length-none (x ∷ xs) e = absurd (grind (arith, nat_tests))

none-first : {X : Type 0} (xs ys : List X) → xs ++ ys ≡ [] → xs ≡ []
none-first [] ys e = refl
none-first (x ∷ xs) ys e = absurd cc

none-behind : {X : Type 0} (xs ys : List X) → xs ++ ys ≡ [] → ys ≡ []
none-behind [] ys e = e
none-behind (x ∷ xs) ys e = absurd cc

none-mapped : {X Y : Type 0} (f : X → Y) (xs : List X) → map f xs ≡ [] → xs ≡ []
none-mapped f [] e = refl
none-mapped f (x ∷ xs) e = absurd cc

none-looked : (line : ℕ → Line) (n : ℕ) → looked line n ≡ [] → n ≡ 0
none-looked line n e = go (n == 0) refl e
  where
    go : (b : Bool) → (n == 0) ≡ b → cond b [] (line n ∷ []) ≡ [] → n ≡ 0
    go true is e = grind (arith, nat_tests)
    go false is e = absurd cc

-- ---- a visit that is due and has no line

abbrev idle : ℕ → Visit
idle p = visit_in [] p

idle-visit : (d : Visit) → visit_lines d ≡ [] → d ≡ idle d.peer
idle-visit d e =
    let owed = map (put_line d.peer) d.owed in
    let see = looked (λ n. see_line d.peer n) d.see in
    let takes = map (taken_line d.peer) d.takes in
    let back = none-first (looked (λ n. back_line d.peer n) d.back) (owed ++ (see ++ takes)) e in
    let rest = none-behind (looked (λ n. back_line d.peer n) d.back) (owed ++ (see ++ takes)) e in
    let after = none-behind owed (see ++ takes) rest in
    let b = none-looked (λ n. back_line d.peer n) d.back back in
    let o = none-mapped (put_line d.peer) d.owed (none-first owed (see ++ takes) rest) in
    let s = none-looked (λ n. see_line d.peer n) d.see (none-first see takes after) in
    let t = none-mapped (taken_line d.peer) d.takes (none-behind see takes after) in
    λ i. record { peer = d.peer; back = b i; owed = o i; see = s i; takes = t i }

shown-none : (q : Peer) (held : ℕ) → due_see q held 0 ≡ 0 → q.shown ≡ 0
shown-none q held e = go (nat_lt 0 q.shown) refl e
  where
    go : (b : Bool) → nat_lt 0 q.shown ≡ b → cond b q.shown (min 0 (q.size - held)) ≡ 0 → q.shown ≡ 0
    go true is e = e
    go false is e = grind (arith, nat_tests)

-- ---- the peers after an idle visit

abbrev looks : Peer → Peer
looks q = record q { free = q.free + 0 }

abbrev sees : Peer → Peer
sees q = record q { shown = 0 }

looked-same : (q : Peer) → q.shown ≡ 0 → sees (looks q) ≡ q
looked-same q none =
    let free : q.free + 0 ≡ q.free = omega arith in
    λ i. record q { free = free i; shown = sym none i }

peers-same : (n : ℕ) (ps : List Peer) → ((q : Peer) → find (is_numbered n) ps ≡ Some q → q.shown ≡ 0) → changed_first (is_numbered n) sees (changed_first (is_numbered n) looks ps) ≡ ps
peers-same n [] none = refl
peers-same n (q ∷ qs) none = go (is_numbered n q) refl none (peers-same n qs)
  where
    go : (b : Bool) → is_numbered n q ≡ b → ((p : Peer) → cond b (Some q) (find (is_numbered n) qs) ≡ Some p → p.shown ≡ 0) → (((p : Peer) → find (is_numbered n) qs ≡ Some p → p.shown ≡ 0) → changed_first (is_numbered n) sees (changed_first (is_numbered n) looks qs) ≡ qs) → changed_first (is_numbered n) sees (cond b (looks q ∷ qs) (q ∷ changed_first (is_numbered n) looks qs)) ≡ q ∷ qs
    go true is none rest = ap (λ t. cond t (sees (looks q) ∷ qs) (looks q ∷ changed_first (is_numbered n) sees qs)) is ∙ ap (λ x. x ∷ qs) (looked-same q (none q refl))
    go false is none rest = ap (λ t. cond t (sees q ∷ changed_first (is_numbered n) looks qs) (q ∷ changed_first (is_numbered n) sees (changed_first (is_numbered n) looks qs))) is ∙ ap (λ xs. q ∷ xs) (rest none)

visit-kept : (s : DomainState) (n : ℕ) → ((q : Peer) → peer_of s n ≡ Some q → q.shown ≡ 0) → after_visit s (idle n) ≡ s
visit-kept s n none = ap (λ ps. record s { peers = ps }) (peers-same n s.peers (λ q e. none q (peer_found s n ∙ e)))

due-shown : (s : DomainState) (n : ℕ) → visit_lines (due_visit s (idle n)) ≡ [] → (q : Peer) → peer_of s n ≡ Some q → q.shown ≡ 0
due-shown s n e q at =
    let same : due_visit s (idle n) ≡ due_at s (idle n) (Some q) = ap (due_at s (idle n)) at in
    let d = due_at s (idle n) (Some q) in
    shown-none q (held_from n s) (ap (λ (v : Visit). v.see) (idle-visit d (ap visit_lines (sym same) ∙ e)))

due-peer : (s : DomainState) (n : ℕ) → (due_visit s (idle n)).peer ≡ n
due-peer s n = go (peer_of s n)
  where
    go : (o : Option Peer) → (due_at s (idle n) o).peer ≡ n
    go None = refl
    go (Some q) = refl

due-idle : (s : DomainState) (n : ℕ) → visit_lines (due_visit s (idle n)) ≡ [] → due_visit s (idle n) ≡ idle n
due-idle s n e = idle-visit (due_visit s (idle n)) e ∙ ap idle (due-peer s n)

turn-kept : (s : DomainState) (ns : List ℕ) → flat_map visit_lines (due_visits s (idle_visits ns)) ≡ [] → (after_turn s (idle_visits ns) ≡ s) × (due_visits s (idle_visits ns) ≡ idle_visits ns)
turn-kept s [] e = (refl, refl)
turn-kept s (n ∷ ns) e =
    let first = none-first (visit_lines (due_visit s (idle n))) (flat_map visit_lines (due_visits (after_visit s (due_visit s (idle n))) (idle_visits ns))) e in
    let behind = none-behind (visit_lines (due_visit s (idle n))) (flat_map visit_lines (due_visits (after_visit s (due_visit s (idle n))) (idle_visits ns))) e in
    let due = due-idle s n first in
    let kept = visit-kept s n (due-shown s n first) in
    let same = ap (after_visit s) due ∙ kept in
    let rest = turn-kept s ns (ap (λ t. flat_map visit_lines (due_visits t (idle_visits ns))) (sym same) ∙ behind) in
    (ap (λ t. after_turn t (idle_visits ns)) kept ∙ rest.0, ap (λ v. v ∷ due_visits (after_visit s (due_visit s (idle n))) (idle_visits ns)) due ∙ ap (λ t. idle n ∷ due_visits t (idle_visits ns)) same ∙ ap (λ vs. idle n ∷ vs) rest.1)

pub idle-kept : (s : DomainState) (peers : List ℕ) → (length (flat_map visit_lines (due_visits s (idle_visits peers))) == 0) ≡ true → after_turn s (idle_visits peers) ≡ s
idle-kept s peers e = (turn-kept s peers (length-none _ e)).0

pub idle-due : (s : DomainState) (peers : List ℕ) → (length (flat_map visit_lines (due_visits s (idle_visits peers))) == 0) ≡ true → due_visits s (idle_visits peers) ≡ idle_visits peers
idle-due s peers e = (turn-kept s peers (length-none _ e)).1

-- ---- no lines are compared with those of an idle turn

pub none-met : (texts : List (List ℕ)) (new : LinesLeft) (due : List Line) (is : Bool) → texts ≡ [] → Meets (record { texts = texts; place = 0 }) new due is → is ≡ (length due == 0)
none-met texts new [] true none met = refl
none-met texts new (d ∷ ds) true none met = let some : [] ≡ line_text d ∷ (map line_text ds ++ new.texts) = sym none ∙ met.texts in absurd cc
none-met texts new [] false none missed = let no : moved 0 None ≡ Some new.place = ap (λ ts. moved 0 (first_other ts [])) (sym none) ∙ missed.place [] in absurd cc
none-met texts new (d ∷ ds) false none missed = grind (arith, nat_tests)

-- ---- no line of a turn that tells nothing is long

all-more : {X : Type 0} (P Q : X → Type 0) (xs : List X) → ((x : X) → P x → Q x) → AllByRecursion P xs → AllByRecursion Q xs
all-more P Q [] f h = h
all-more P Q (x ∷ xs) f h = (f x h.0, all-more P Q xs f h.1)

pub short-more : (size : ℕ) (t : ToldTurn) → AreShort 0 t → AreShort size t
short-more size t short =
    all-more (HasShortLines 0) (HasShortLines size) t.peers (λ p h. all-more (λ (l : Bor (List ℕ)). length l.now ≤ 0) (λ (l : Bor (List ℕ)). length l.now ≤ size) p.takes (λ l few. omega (arith, few)) h) short
