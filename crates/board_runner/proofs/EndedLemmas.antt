-- Links that are ended one after the other, and what is left of the ends of each.
use Rattle.std.proofs.Common.{◌≡◌, ℕ, zero, suc, ◌<◌, length, option_map, option_and_then, Bool, true, false, ◌&&◌, cond, List, [], ◌∷◌, ◌++◌, map, find, get_or, slice_get, Option, Some, None, refl, sym, ap, ap₂, ◌∙◌, subst, inl, inr, eqb-true, append_assoc, append-nil}
use Rattle.std.specs.Prelude.{◌==◌, position}
use Rattle.std.specs.List.{AllByRecursion, remove}
use Rattle.std.proofs.lemmas.Bool.{and_parts, ne_eqb}
use Rattle.std.proofs.lemmas.Bool.Decides.{eqb_tells}
use Rattle.std.proofs.lemmas.List.{map-append}
use Rattle.std.proofs.lemmas.Option.{slice_get-get_or}
use Rattle.board_model.specs.declared.scenario.DomainLine.{DomainLine}
use Rattle.board_model.specs.declared.scenario.Scenario.{Scenario}
use Rattle.board_model.specs.SerialRun as run
use Rattle.board_model.proofs.MessageAlls.{found-passes}
use Rattle.board_model.proofs.MessageLists.{get-position}
use Rattle.lane_end.specs.Halves.{SendLeaves, RecvLeaves}
use Rattle.domain_core.specs.Carrying.{AnyLink}
use Rattle.domain_core.specs.Opening.{links_in}
use Rattle.domain_core.specs.declared.Ends.TheVariants.{Own, Linked}
use Rattle.board_runner.specs.declared.ended.EndedLink.{EndedLink}
use Rattle.board_runner.specs.declared.station.Station.{Station}
use Rattle.board_runner.specs.declared.wires.Wire.{Wire}
use Rattle.board_runner.specs.Near.{RunEnds, peers_of, EndsMatch}
use Rattle.board_runner.specs.Opened.{AreOpened}
use Rattle.board_runner.specs.OwnRun.{HasNotBegun}
use Rattle.board_runner.specs.Stations.{AreStations}
use Rattle.board_runner.specs.Ended.{IsOverRings, HasRings, WireEnds, WiresEnd, wire_of, wires_in, wires_left, EndMore, is_ended_at, ended_at}
use Rattle.board_runner.specs.Wired.{leads_from, wire_at}

-- ---- one more

ended-more : (ws : List Wire) (es : List EndedLink) (w : Wire) (e : EndedLink) → WiresEnd ws es → WireEnds w e → WiresEnd (ws ++ w ∷ []) (es ++ e ∷ [])
ended-more [] [] w e so_far new = (new, tt)
ended-more [] (x ∷ es) w e so_far new = absurd so_far
ended-more (v ∷ ws) [] w e so_far new = absurd so_far
ended-more (v ∷ ws) (x ∷ es) w e so_far new = (so_far.0, ended-more ws es w e so_far.1 new)

pub end-none : (owner : ℕ) (ls : List AnyLink) (es : List EndedLink) → ls ≡ [] → EndMore owner ls es es
end-none owner ls es none ws so_far = subst (λ (us : List Wire). WiresEnd us es) (sym (ap (λ (ks : List AnyLink). ws ++ map (wire_of owner) ks) none ∙ append-nil ws)) so_far

pub end-next : (owner : ℕ) (ls : List AnyLink) (l : AnyLink) (old es new : List EndedLink) (e : EndedLink) → EndMore owner ls old es → WireEnds (wire_of owner l) e → new ≡ es ++ e ∷ [] → EndMore owner (ls ++ l ∷ []) old new
end-next owner ls l old es new e so_far ends added ws before =
    let longer : (ws ++ map (wire_of owner) ls) ++ wire_of owner l ∷ [] ≡ ws ++ map (wire_of owner) (ls ++ l ∷ []) =
    append_assoc ws (map (wire_of owner) ls) (wire_of owner l ∷ []) ∙ ap (λ (us : List Wire). ws ++ us) (sym (map-append (wire_of owner) ls (l ∷ []))) in
    subst (WiresEnd (ws ++ map (wire_of owner) (ls ++ l ∷ []))) (sym added)
    (subst (λ (us : List Wire). WiresEnd us (es ++ e ∷ [])) longer (ended-more (ws ++ map (wire_of owner) ls) es (wire_of owner l) e (so_far ws before) ends))

pub left-more : (sts : List Station) (st : Station) → wires_left (sts ++ st ∷ []) ≡ wires_left sts ++ wires_in st
left-more [] st = append-nil (wires_in st)
left-more (x ∷ sts) st = ap (λ (us : List Wire). wires_in x ++ us) (left-more sts st) ∙ sym (append_assoc (wires_in x) (wires_left sts) (wires_in st))

pub over-at : (ls : List AnyLink) (l : AnyLink) (rest all : List AnyLink) → all ≡ ls ++ l ∷ rest → AllByRecursion IsOverRings all → IsOverRings l
over-at ls l rest all is over = go ls (subst (AllByRecursion IsOverRings) is over)
  where
    go : (ks : List AnyLink) → AllByRecursion IsOverRings (ks ++ l ∷ rest) → IsOverRings l
    go [] h = h.0
    go (k ∷ ks) h = go ks h.1

-- the links of a domain's ends that match its peers are over rings
pub matched-rings : (n : ℕ) (ps : List ℕ) (es : List RunEnds) → EndsMatch n ps es → AllByRecursion IsOverRings (links_in es)
matched-rings n [] [] matched = tt
matched-rings n [] (Own l ∷ es) matched = absurd matched
matched-rings n [] (Linked l ∷ es) matched = absurd matched
matched-rings n (p ∷ ps) [] matched = absurd matched
matched-rings n (p ∷ ps) (Own l ∷ es) matched = matched-rings n ps es matched.1
matched-rings n (p ∷ ps) (Linked l ∷ es) matched = (record { sends = matched.1.sends; receives = matched.1.receives }, matched-rings n ps es matched.2)

-- ---- what is left of a domain's ends of its link to a peer

pub record EndsAt (l : AnyLink) (found : Option EndedLink) : Type 0 where
  pub ended : EndedLink
  pub is : found ≡ Some ended
  pub left : (owner : ℕ) × WireEnds (wire_of owner l) ended

pub ended-there : (ws : List Wire) (es : List EndedLink) → WiresEnd ws es → (a b : ℕ) (l : AnyLink) → wire_at ws a b ≡ Some l → EndsAt l (ended_at es a b)
ended-there [] es are a b l at = absurd cc
ended-there (w ∷ ws) [] are a b l at = absurd are
ended-there (w ∷ ws) (e ∷ es) are a b l at =
    subst (λ (c : Bool). EndsAt l (cond c (Some e) (ended_at es a b))) (ap₂ (λ (x y : ℕ). (x == a) && (y == b)) (sym are.0.owner) (sym are.0.peer))
    (go (leads_from a b w) at (ended-there ws es are.1 a b l))
  where
    go : (c : Bool) → option_map (λ (x : Wire). x.link) (cond c (Some w) (find (leads_from a b) ws)) ≡ Some l → (wire_at ws a b ≡ Some l → EndsAt l (ended_at es a b)) → EndsAt l (cond c (Some e) (ended_at es a b))
    go true here later =
        let same : w.link ≡ l = cc in
        record { ended = e; is = refl; left = (w.owner, record { owner = are.0.owner; peer = are.0.peer ∙ ap (λ (k : AnyLink). k.peer) same; send = subst (λ (k : AnyLink). SendLeaves k.send e.send) same are.0.send; recv = subst (λ (k : AnyLink). RecvLeaves k.recv e.recv) same are.0.recv }) }
    go false here later = later here

-- ---- taken out

found-at : (p : EndedLink → Bool) (es : List EndedLink) (i : ℕ) (e : EndedLink) → Some i ≡ position p es → i < length es → (find p es ≡ Some (get_or es i e)) × (slice_get es i ≡ Some (get_or es i e))
found-at p es i e is within =
    let at = slice_get-get_or es i e within in
    (sym (get-position p es) ∙ ap (option_and_then (λ j. slice_get es j)) (sym is) ∙ at, at)

removed-other : (p : EndedLink → Bool) (es : List EndedLink) (i : ℕ) (e : EndedLink) → slice_get es i ≡ Some e → p e ≡ false → find p (remove es i) ≡ find p es
removed-other p [] i e at other = absurd cc
removed-other p (x ∷ es) zero e at other =
    let is : x ≡ e = cc in
    sym (ap (λ (c : Bool). cond c (Some x) (find p es)) (ap p is ∙ other))
removed-other p (x ∷ es) (suc i) e at other = ap (λ (o : Option EndedLink). cond (p x) (Some x) o) (removed-other p es i e at other)

ended-no : (a b : ℕ) (e : EndedLink) → (e.owner ≡ a → e.peer ≡ b → ⊥) → is_ended_at a b e ≡ false
ended-no a b e other = elim (eqb_tells e.owner a) [
  | inl own ↦ ap (λ (c : Bool). c && (e.peer == b)) own.0 ∙ ne_eqb e.peer b (other own.1)
  | inr not ↦ ap (λ (c : Bool). c && (e.peer == b)) not.0
]

pub taken-there : (es : List EndedLink) (a b i : ℕ) (e : EndedLink) → Some i ≡ position (is_ended_at a b) es → i < length es → e ≡ get_or es i e → ended_at es a b ≡ Some e
taken-there es a b i e is within here = (found-at (is_ended_at a b) es i e is within).0 ∙ ap Some (sym here)

pub taken-none : (es : List EndedLink) (a b : ℕ) → None ≡ position (is_ended_at a b) es → ended_at es a b ≡ None
taken-none es a b is = sym (get-position (is_ended_at a b) es) ∙ ap (option_and_then (λ j. slice_get es j)) (sym is)

pub taken-others : (es : List EndedLink) (a b i : ℕ) (e : EndedLink) → Some i ≡ position (is_ended_at a b) es → i < length es → (c d : ℕ) → (a ≡ c → b ≡ d → ⊥) → ended_at (remove es i) c d ≡ ended_at es c d
taken-others es a b i e is within c d other =
    let f = found-at (is_ended_at a b) es i e is within in
    let found = get_or es i e in
    let parts = and_parts (found.owner == a) (found.peer == b) (found-passes (is_ended_at a b) es found f.0) in
    removed-other (is_ended_at c d) es i found f.1 (ended-no c d found (λ x y. other (sym (eqb-true found.owner a parts.0) ∙ x) (sym (eqb-true found.peer b parts.1) ∙ y)))

-- ---- stations that are opened and that ran

pub opened-begins : (s : Scenario) (ws : List Wire) (ds : List DomainLine) (sts : List Station) → AreOpened s ws ds sts → AllByRecursion HasNotBegun sts
opened-begins s ws [] [] opens = tt
opened-begins s ws [] (st ∷ sts) opens = absurd opens
opened-begins s ws (d ∷ ds) [] opens = absurd opens
opened-begins s ws (d ∷ ds) (st ∷ sts) opens = (record { number = opens.0.number; dropped = opens.0.dropped }, opened-begins s ws ds sts opens.1)

pub stations-ringed : (s : Scenario) (ts : List run.Station) (sts : List Station) → AreStations s ts sts → AllByRecursion HasRings sts
stations-ringed s [] [] are = tt
stations-ringed s [] (st ∷ sts) are = absurd are
stations-ringed s (t ∷ ts) [] are = absurd are
stations-ringed s (t ∷ ts) (st ∷ sts) are = (matched-rings t.line.domain (peers_of st.domain) st.domain.ends are.0.matched, stations-ringed s ts sts are.1)
