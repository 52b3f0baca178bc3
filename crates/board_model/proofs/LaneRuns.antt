-- Runs of a domain, at any peer: the free buffers of the lane to it by what was put and came back, and the items that are held
-- from it by what was taken and given back.
use Rattle.std.proofs.Common.{◌≡◌, ℕ, ◌+◌, ◌≤◌, min, Bool, true, false, cond, List, [], ◌∷◌, ◌++◌, length, map, sum, Option, Some, None, is_some, count_by, flat_map, option_map, refl, sym, ap, ◌∙◌, subst, inl, inr, arith, length-append, length-take, eq-eqb}
use Rattle.std.specs.Prelude.{◌==◌, unwrap_or}
use Rattle.std.proofs.lemmas.Bool.{ne_eqb}
use Rattle.std.proofs.lemmas.Bool.Decides.{eqb_tells}
use Rattle.std.proofs.lemmas.List.Sums.{sum_by-append, sum_by-cons}
use Rattle.mc_base.specs.Limits.{turn_limit}
use Rattle.board_model.proofs.WaitCalls.{wait-puts}
use Rattle.board_model.specs.Answer.{puts}
use Rattle.board_model.specs.declared.scenario.CallLine.{CallLine}
use Rattle.board_model.specs.Journal.{PlainEntry, turned, put, again, waits, called, Visit}
use Rattle.board_model.specs.State.{DomainState, Peer, peer_at, peer_of, free_to, frames_from, held_from, owed_to}
use Rattle.board_model.specs.Deeds.{looks_back, puts_owed, looks_ahead, after_deed, along}
use Rattle.board_model.specs.Returns.{names_given}
use Rattle.board_model.specs.Serial.{looks_deeds}
use Rattle.board_model.specs.Turn.{nameless, takes_named, visit_deeds, after_visit, IsVisit, AreVisits, after_turn}
use Rattle.board_model.specs.DomainCall.{DomainCall}
use Rattle.board_model.specs.CallChanges.{effect, returned}
use Rattle.board_model.specs.Step.{RunState, HasNoPuts, next_line, call_at, Allowed, effect_of_line, after, limit_of, MayCome}
use Rattle.board_model.specs.Traffic.{visits_to, puts_in, takes_in, put_to, takes_from, returned_by, given_in, given, backs_in, back_looks}
use Rattle.board_model.specs.Run.{Leads}
use Rattle.board_model.proofs.ListsCounts.{one_if, count-cons, count-append}
use Rattle.board_model.proofs.StateEnds.{Ends}
use Rattle.board_model.proofs.DeedJoins.{call-ends, deeds-ends, along-join}
use Rattle.board_model.proofs.LanePeers.{peer_found, free-at}
use Rattle.board_model.proofs.VisitLooks.{after_looks, after_takes, HaveWords, visit-after, visit-split, visit-words, looks-keep, looked, looked-free, looks-peer}
use Rattle.board_model.proofs.LaneTakes.{weight, held-by-weight, weighed-is, calls-held, takes_count, takes-free}
use Rattle.board_model.proofs.LaneCalls.{call_counts}
use Rattle.board_model.proofs.LaneSends.{goes_to, call_frees}

-- ---- a visit

abbrev free_of : Option Peer → ℕ
free_of o = unwrap_or (option_map (λ p. p.free) o) 0

-- frames that are taken use no buffer of a lane to a peer
pub visit_free : (n : ℕ) (s : DomainState) (v : Visit) (b : Bool) → (v.peer == n) ≡ b → free_to (after_visit s v) n ≡ free_of (option_map (λ p. cond b (looked v p) p) (peer_at s n))
visit_free n s v b is =
    ap (λ t. free_to t n) (visit-after s v)
    ∙ (free-at (after_takes (after_looks s v) v.peer v.takes) n
    ∙ (ap (λ o. unwrap_or o 0) (takes-free (after_looks s v) v.peer v.takes n) ∙ ap free_of (looks-peer s v n b is)))

-- what is put is at most what is free after the look
pub due_within : (s : DomainState) (v : Visit) (h : IsVisit s v) → length v.owed ≤ h.at.free + v.back
due_within s v h = omega (arith, ap length h.puts_due, length-take (min turn_limit (h.at.free + v.back)) (owed_to s.number h.at))

-- at the peer itself
visit_frees : (n : ℕ) (s : DomainState) (v : Visit) → v.peer ≡ n → IsVisit s v → free_to (after_visit s v) n + length v.owed ≡ free_to s n + v.back
visit_frees n s v same h =
    let known : peer_at s n ≡ Some h.at = sym (peer_found s n) ∙ (ap (peer_of s) (sym same) ∙ h.known) in
    omega (
      arith,
      visit_free n s v true (eq-eqb v.peer n same),
      ap (λ o. free_of (option_map (looked v) o)) known,
      looked-free v h.at,
      due_within s v h,
      free-at s n,
      ap free_of known,
    )

-- at the others
pub visit_other : (n : ℕ) (s : DomainState) (v : Visit) → (v.peer ≡ n → ⊥) → free_to (after_visit s v) n ≡ free_to s n
visit_other n s v differ = visit_free n s v false (ne_eqb v.peer n differ) ∙ (go (peer_at s n) ∙ sym (free-at s n))
  where
    go : (o : Option Peer) → free_of (option_map (λ p. p) o) ≡ free_of o
    go None = refl
    go (Some p) = refl

-- looks change nothing that is held
pub looks_hold : (n : ℕ) (s : DomainState) (v : Visit) → held_from n (after_looks s v) ≡ held_from n s
looks_hold n s v = looks-keep (held_from n) (λ t p k. refl) (λ t p. refl) (λ t p k. refl) s v

-- looks and owed frames give nothing back
looks_give : (n : ℕ) (s : DomainState) (v : Visit) → along (names_given n) s (looks_deeds v.peer v.back v.owed v.see) ≡ []
looks_give n s v =
    let t : DomainState = after_deed s (looks_back v.peer v.back) in
    along-join (names_given n) t (map (puts_owed v.peer) v.owed) (looks_ahead v.peer v.see ∷ [])
    ∙ ap (λ xs. xs ++ []) (puts_give v.owed t)
  where
    puts_give : (fs : List (List ℕ)) (t : DomainState) → along (names_given n) t (map (puts_owed v.peer) fs) ≡ []
    puts_give [] t = refl
    puts_give (f ∷ fs) t = puts_give fs (after_deed t (puts_owed v.peer f))

-- what a visit gives back to a peer
pub visit-gives : (n : ℕ) (s : DomainState) (v : Visit) → along (names_given n) s (visit_deeds nameless v) ≡ along (names_given n) (after_looks s v) (takes_named nameless v.peer v.takes)
visit-gives n s v =
    ap (along (names_given n) s) (visit-split nameless v)
    ∙ (along-join (names_given n) s (looks_deeds v.peer v.back v.owed v.see) (takes_named nameless v.peer v.takes)
    ∙ ap (λ xs. xs ++ along (names_given n) (after_looks s v) (takes_named nameless v.peer v.takes)) (looks_give n s v))

visit_holds : (n : ℕ) (s : DomainState) (v : Visit) → HaveWords (after_looks s v) v.peer v.takes → held_from n (after_visit s v) + length (along (names_given n) s (visit_deeds nameless v)) ≡ held_from n s + cond (v.peer == n) (length v.takes) 0
visit_holds n s v words =
    omega (arith, ap (held_from n) (visit-after s v), takes_count n (after_looks s v) v.peer nameless v.takes words, looks_hold n s v, ap length (visit-gives n s v))

-- ---- a turn

-- what a turn does at a peer: frames put, buffers back, frames taken and buffers given back
record TurnSums (n : ℕ) (s : DomainState) (vs : List Visit) (after : DomainState) : Type 0 where
  frees : free_to after n + length (puts_in n (turned vs)) ≡ free_to s n + sum (backs_in n (turned vs))
  holds : held_from n after + length (along (names_given n) s (flat_map (visit_deeds nameless) vs)) ≡ held_from n s + length (takes_in n (turned vs))

module _ (n : ℕ) (v : Visit) (vs : List Visit) where
  own_visits : (v.peer == n) ≡ true → visits_to n (v ∷ vs) ≡ v ∷ visits_to n vs
  own_visits same = ap (λ b. cond b (v ∷ visits_to n vs) (visits_to n vs)) same

  other_visits : (v.peer == n) ≡ false → visits_to n (v ∷ vs) ≡ visits_to n vs
  other_visits differ = ap (λ b. cond b (v ∷ visits_to n vs) (visits_to n vs)) differ

pub turn-gives : (n : ℕ) (s : DomainState) (v : Visit) (vs : List Visit) → length (along (names_given n) s (flat_map (visit_deeds nameless) (v ∷ vs))) ≡ length (along (names_given n) s (visit_deeds nameless v)) + length (along (names_given n) (after_visit s v) (flat_map (visit_deeds nameless) vs))
turn-gives n s v vs =
    ap length (along-join (names_given n) s (visit_deeds nameless v) (flat_map (visit_deeds nameless) vs))
    ∙ length-append (along (names_given n) s (visit_deeds nameless v)) (along (names_given n) (after_visit s v) (flat_map (visit_deeds nameless) vs))

turn_sums : (n : ℕ) (s : DomainState) (vs : List Visit) → AreVisits s vs → TurnSums n s vs (after_turn s vs)
turn_sums n s [] are = record { frees = refl; holds = refl }
turn_sums n s (v ∷ vs) are = elim (eqb_tells v.peer n) [
  | inl same ↦
      let rest = turn_sums n (after_visit s v) vs are.1 in
      let given = turn-gives n s v vs in
      let visits = own_visits n v vs same.0 in
      let puts = ap (λ (us : List Visit). length (flat_map (λ x. x.owed) us)) visits in
      let takes = ap (λ (us : List Visit). flat_map (λ x. x.takes) us) visits in
      record {
        frees = omega (arith, rest.frees, visit_frees n s v same.1 are.0, puts, length-append v.owed (puts_in n (turned vs)), ap (λ (us : List Visit). sum (map (λ x. x.back) us)) visits, sum_by-cons (λ (x : ℕ). x) v.back (backs_in n (turned vs)));
        holds = omega (arith, rest.holds, visit_holds n s v (visit-words s v are.0.may), ap length takes, given, length-append v.takes (takes_in n (turned vs)), ap (λ b. cond b (length v.takes) 0) same.0);
      }
  | inr differ ↦
      let rest = turn_sums n (after_visit s v) vs are.1 in
      let given = turn-gives n s v vs in
      let visits = other_visits n v vs differ.0 in
      let takes = ap (λ (us : List Visit). flat_map (λ x. x.takes) us) visits in
      record {
        frees = omega (arith, rest.frees, visit_other n s v differ.1, ap (λ (us : List Visit). length (flat_map (λ x. x.owed) us)) visits, ap (λ (us : List Visit). sum (map (λ x. x.back) us)) visits);
        holds = omega (arith, rest.holds, visit_holds n s v (visit-words s v are.0.may), ap length takes, given, ap (λ b. cond b (length v.takes) 0) differ.0);
      }
]

-- ---- the two sums along a run

-- frames that were put since the turn, and that no call has answered for
abbrev pub waiting : ℕ → Option (List (ℕ × List ℕ)) → ℕ
waiting n None = 0
waiting n (Some ps) = count_by (goes_to n) ps

pub waiting_none : (n : ℕ) (o : Option (List (ℕ × List ℕ))) → HasNoPuts o → waiting n o ≡ 0
waiting_none n None h = refl
waiting_none n (Some ps) h = ap (count_by (goes_to n)) h

-- after so many frames put to a peer, buffers come back, frames taken and buffers given back
pub record Sums (n size puts backs takes gives : ℕ) (r : RunState) : Type 0 where
  pub frees : free_to r.state n + puts ≡ size + backs + waiting n r.put_since_turn
  pub holds : held_from n r.state + gives ≡ takes

length-if : (b : Bool) (frame : List ℕ) → length (cond b (frame ∷ []) []) ≡ one_if b
length-if true frame = refl
length-if false frame = refl

waiting_more : (n : ℕ) (o : Option (List (ℕ × List ℕ))) (to : ℕ) (frame : List ℕ) → is_some o ≡ true → waiting n (option_map (λ ps. ps ++ (to, frame) ∷ []) o) ≡ waiting n o + length (puts_in n (put to frame))
waiting_more n None to frame h = absurd cc
waiting_more n (Some ps) to frame h = omega (arith, count-append (goes_to n) ps ((to, frame) ∷ []), count-cons (goes_to n) (to, frame) [], length-if (to == n) frame)

pub call_holds : (n : ℕ) (s : DomainState) → Ends s → (node : ℕ) (call : DomainCall) → held_from n (effect s node call) + length (frames_from n (returned s node call)) ≡ held_from n s
call_holds n s ends node call =
    omega (arith, call_counts (weight n) s ends node call, held-by-weight n (effect s node call), held-by-weight n s, weighed-is n (returned s node call), ap length (calls-held n s node call))

-- ---- a state of a run keeps names and addresses of endpoints apart

turn_ends : (s : DomainState) (vs : List Visit) → Ends s → Ends (after_turn s vs)
turn_ends s [] ends = ends
turn_ends s (v ∷ vs) ends = turn_ends (after_visit s v) vs (deeds-ends s (visit_deeds nameless v) ends)

pub ends-after : (script : List CallLine) (r : RunState) (e : PlainEntry) → Ends r.state → Ends (after script r e).state
ends-after script r (turned vs) ends = turn_ends r.state vs ends
ends-after script r (put to frame) ends = ends
ends-after script r (again word) ends = ends
ends-after script r (waits k) ends = ends
ends-after script r (called k a) ends = line_ends (next_line script r)
  where
    line_ends : (o : Option CallLine) → Ends (effect_of_line o r)
    line_ends None = ends
    line_ends (Some line) = call-ends r.state line.node (call_at r line) ends

pub ends-leads : (script : List CallLine) (r new : RunState) (es : List PlainEntry) → Leads script r es new → Ends r.state → Ends new.state
ends-leads script r new [] leads ends = subst (λ (x : RunState). Ends x.state) (sym leads) ends
ends-leads script r new (e ∷ es) leads ends =
    ends-leads script leads.0 new es leads.2 (subst (λ (x : RunState). Ends x.state) (sym leads.1.leads) (ends-after script r e ends))

-- a call comes with the frames that it puts
came_with : (n : ℕ) (line : CallLine) (r : RunState) (limit : Option ℕ) → limit_of line.call ≡ limit → MayCome limit r line → waiting n r.put_since_turn ≡ count_by (goes_to n) (puts r.state line.node (call_at r line))
came_with n line r None is come = ap (waiting n) come
came_with n line r (Some limit) is come = waiting_none n r.put_since_turn come.0 ∙ ap (count_by (goes_to n)) (sym (wait-puts r line limit is))

-- an entry adds what it does
sums_after : (script : List CallLine) (n size p b t g : ℕ) (r : RunState) (e : PlainEntry) → Ends r.state → Allowed script r e → Sums n size p b t g r → Sums n size (p + length (puts_in n e)) (b + sum (backs_in n e)) (t + length (takes_in n e)) (g + given_in script r n e) (after script r e)
sums_after script n size p b t g r (turned vs) ends allowed h =
    let turn = turn_sums n r.state vs allowed.1.allowed in
    record { frees = omega (arith, h.frees, turn.frees, waiting_none n r.put_since_turn allowed.0); holds = omega (arith, h.holds, turn.holds) }
sums_after script n size p b t g r (put to frame) ends allowed h =
    record { frees = omega (arith, h.frees, waiting_more n r.put_since_turn to frame allowed); holds = omega (arith, h.holds) }
sums_after script n size p b t g r (again word) ends allowed h =
    record { frees = omega (arith, h.frees, ap (waiting n) allowed.3); holds = omega (arith, h.holds) }
sums_after script n size p b t g r (waits k) ends allowed h = record { frees = omega (arith, h.frees); holds = omega (arith, h.holds) }
sums_after script n size p b t g r (called k a) ends allowed h =
    let line = allowed.0 in
    let here = allowed.1 in
    record {
      frees = omega (arith, h.frees, call_frees r.state n line.node (call_at r line), ap (λ o. free_to (effect_of_line o r) n) here, came_with n line r (limit_of line.call) refl allowed.4);
      holds = omega (arith, h.holds, call_holds n r.state ends line.node (call_at r line), ap (λ o. held_from n (effect_of_line o r)) here, ap (λ o. length (frames_from n (returned_by o r))) here);
    }

sum-append : (xs ys : List ℕ) → sum (xs ++ ys) ≡ sum xs + sum ys
sum-append xs ys = sum_by-append (λ x. x) xs ys

sums_to : (n size p b t g p' b' t' g' : ℕ) (r : RunState) → p ≡ p' → b ≡ b' → t ≡ t' → g ≡ g' → Sums n size p b t g r → Sums n size p' b' t' g' r
sums_to n size p b t g p' b' t' g' r e1 e2 e3 e4 h = record { frees = omega (arith, h.frees); holds = omega (arith, h.holds) }

-- the sums along a whole run
pub sums_run : (script : List CallLine) (n size p b t g : ℕ) (r new : RunState) (es : List PlainEntry) → Ends r.state → Leads script r es new → Sums n size p b t g r → Sums n size (p + length (put_to n es)) (b + sum (back_looks n es)) (t + length (takes_from n es)) (g + given script r n es) new
sums_run script n size p b t g r new [] ends leads h =
    subst (λ x. Sums n size (p + 0) (b + 0) (t + 0) (g + 0) x) (sym leads) (sums_to n size p b t g (p + 0) (b + 0) (t + 0) (g + 0) r (omega arith) (omega arith) (omega arith) (omega arith) h)
sums_run script n size p b t g r new (e ∷ es) ends leads h =
    let next = leads.0 in
    let is_next : after script r e ≡ next = sym leads.1.leads in
    let rest : Leads script (after script r e) es new = subst (λ x. Leads script x es new) (sym is_next) leads.2 in
    let one = sums_after script n size p b t g r e ends leads.1.allowed h in
    let all = sums_run script n size (p + length (puts_in n e)) (b + sum (backs_in n e)) (t + length (takes_in n e)) (g + given_in script r n e) (after script r e) new es (ends-after script r e ends) rest one in
    sums_to n size
    (p + length (puts_in n e) + length (put_to n es)) (b + sum (backs_in n e) + sum (back_looks n es)) (t + length (takes_in n e) + length (takes_from n es)) (g + given_in script r n e + given script (after script r e) n es)
    (p + length (put_to n (e ∷ es))) (b + sum (back_looks n (e ∷ es))) (t + length (takes_from n (e ∷ es))) (g + given script r n (e ∷ es)) new
    (omega (arith, length-append (puts_in n e) (put_to n es)))
    (omega (arith, sum-append (backs_in n e) (back_looks n es)))
    (omega (arith, length-append (takes_in n e) (takes_from n es)))
    (omega arith)
    all
