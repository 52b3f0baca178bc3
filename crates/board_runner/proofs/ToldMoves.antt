-- The moves that a turn and a call make at the ends towards each peer are those that their entries tell.
use Rattle.std.proofs.Common.{◌≡◌, ℕ, Bool, true, false, cond, List, [], ◌∷◌, ◌++◌, length, map, flat_map, filter, refl, sym, ap, ap₂, ◌∙◌, subst, arith, append_assoc, append-nil, eq-eqb, ne_eqb}
use Rattle.std.specs.Prelude.{◌==◌, Option, None, Some}
use Rattle.std.specs.List.{AllByRecursion}
use Rattle.std.proofs.lemmas.List.{map-append}
use Rattle.mc_base.specs.declared.request.RequestId.{RequestId}
use Rattle.lane_end.specs.AnySender.{AnySends, AnySends-none, AnySends-both}
use Rattle.lane_end.specs.AnyReceiver.{AnyReceives, AnyReceives-none, AnyReceives-both}
use Rattle.lane_end.specs.SendMoves.{Sent}
use Rattle.lane_end.specs.ReceiveMoves.{ReceiveMove, Gave}
use Rattle.board_model.specs.declared.scenario.CallLine.{CallLine}
use Rattle.board_model.specs.Answer.{puts}
use Rattle.board_model.specs.CallChanges.{returned}
use Rattle.board_model.specs.Deeds.{Deed, calls, after_deeds, along}
use Rattle.board_model.specs.JournalDeeds.{named_deeds, call_deeds, entry_deeds}
use Rattle.board_model.specs.DomainCall.{DomainCall}
use Rattle.board_model.specs.Journal.{PlainEntry, turned, PlainAnswer, Visit}
use Rattle.board_model.specs.LinkedBoard.{Differ}
use Rattle.board_model.specs.Serial.{put_entry}
use Rattle.board_model.specs.State.{DomainState, Item, frames_from}
use Rattle.board_model.specs.Step.{RunState, next_line, after}
use Rattle.board_model.specs.Run.{after_all}
use Rattle.board_model.specs.Traffic.{returned_by}
use Rattle.board_model.specs.Unnamed.{unnamed}
use Rattle.board_model.proofs.DeedJoins.{after-join, along-join}
use Rattle.board_model.proofs.MessageAlls.{all-append}
use Rattle.board_model.proofs.WholeJournals.{call_entries}
use Rattle.domain_core.specs.declared.Ends.TheVariants.{Own, Linked}
use Rattle.domain_core.specs.AllMoved.{AllMoved, turn_moves, giving, frames_to, moves_at}
use Rattle.domain_core.specs.Calls.{Does}
use Rattle.domain_core.specs.Ends.{EndsMoved-both}
use Rattle.domain_core.specs.LaneMoves.{LaneMove, sender, receiver, receives}
use Rattle.domain_core.specs.NumberedDeeds.{numbered_deeds, turn_deeds}
use Rattle.domain_core.specs.LinkMoved.{link-none}
use Rattle.domain_core.specs.Turned.{HaveNumbers, Turns}
use Rattle.domain_core.specs.VisitMoves.{putting, visit_moves}
use Rattle.board_runner.specs.Near.{RunEnds, RunDomain, peers_of, EndsMatch}
use Rattle.lane_images.specs.DeedMoves as deals
use Rattle.lane_images.specs.DeedMoves.{deed_moves, unlooked, nameless_deed, IsNumbered}
use Rattle.board_runner.specs.OwnRun.{unnumbered, visit_told, turn_told, entry_told, moves_told, deeds_told, MovedAsTold}
use Rattle.board_runner.proofs.NamedItems.{named-many}
use Rattle.board_runner.proofs.NumberedMoves.{dealt-append, turn_at, turn-numbered, turn-nameless, turn-dealt, call-dealt, call-noted}
use Rattle.board_runner.proofs.TurnEnds.{Moved, visit-after}
use Rattle.board_runner.proofs.Unnumbered.{unnumbered_putting, unnumbered_visit}

-- ---- a turn

unnumbered_turn : (s : DomainState) (vs : List Visit) (nss : List (List ℕ)) → HaveNumbers vs nss → (p : ℕ) → map unnumbered (turn_at s vs nss p) ≡ turn_told p (unnamed s) vs
unnumbered_turn s [] [] have p = refl
unnumbered_turn s [] (ns ∷ nss) have p = absurd have
unnumbered_turn s (v ∷ vs) [] have p = absurd have
unnumbered_turn s (v ∷ vs) (ns ∷ nss) have p =
    let now = after_deeds s (numbered_deeds v ns) in
    map-append unnumbered (cond (v.peer == p) (visit_moves s v ns) []) (turn_at now vs nss p)
    ∙ ap₂ (λ (xs ys : List LaneMove). xs ++ ys) (go (v.peer == p)) (unnumbered_turn now vs nss have.1 p ∙ ap (λ (t : DomainState). turn_told p t vs) (visit-after s v ns))
  where
    go : (b : Bool) → map unnumbered (cond b (visit_moves s v ns) []) ≡ cond b (visit_told (unnamed s) v) []
    go true = unnumbered_visit s v ns have.0
    go false = refl

abbrev Others : ℕ → List ℕ → Type 0
Others p ps = AllByRecursion (λ m. m ≡ p → ⊥) ps

none_at : (s : DomainState) (vs : List Visit) (nss : List (List ℕ)) (p : ℕ) → Others p (map (λ v. v.peer) vs) → turn_at s vs nss p ≡ []
none_at s [] nss p others = refl
none_at s (v ∷ vs) [] p others = refl
none_at s (v ∷ vs) (ns ∷ nss) p others =
    let now = after_deeds s (numbered_deeds v ns) in
    ap (λ (b : Bool). cond b (visit_moves s v ns) [] ++ turn_at now vs nss p) (ne_eqb v.peer p others.0) ∙ none_at now vs nss p others.1

past_one : (moves : List LaneMove) (peer : ℕ) (f : ℕ → List LaneMove) (ps : List ℕ) → Others peer ps → map (λ p. cond (peer == p) moves [] ++ f p) ps ≡ map f ps
past_one moves peer f [] others = refl
past_one moves peer f (p ∷ ps) others =
    ap₂ (λ (x : List LaneMove) (xs : List (List LaneMove)). x ∷ xs) (ap (λ (b : Bool). cond b moves [] ++ f p) (ne_eqb peer p (λ e. others.0 (sym e)))) (past_one moves peer f ps others.1)

-- each peer is visited once
each_once : (s : DomainState) (vs : List Visit) (nss : List (List ℕ)) → HaveNumbers vs nss → Differ (map (λ v. v.peer) vs) → map (turn_at s vs nss) (map (λ v. v.peer) vs) ≡ turn_moves s vs nss
each_once s [] [] have differ = refl
each_once s [] (ns ∷ nss) have differ = absurd have
each_once s (v ∷ vs) [] have differ = absurd have
each_once s (v ∷ vs) (ns ∷ nss) have differ =
    let now = after_deeds s (numbered_deeds v ns) in
    let moves = visit_moves s v ns in
    let here : turn_at s (v ∷ vs) (ns ∷ nss) v.peer ≡ moves =
    ap (λ (b : Bool). cond b moves [] ++ turn_at now vs nss v.peer) (eq-eqb v.peer v.peer refl)
    ∙ ap (λ (ms : List LaneMove). moves ++ ms) (none_at now vs nss v.peer differ.0) ∙ append-nil moves in
    ap₂ (λ (x : List LaneMove) (xs : List (List LaneMove)). x ∷ xs) here (past_one moves v.peer (turn_at now vs nss) (map (λ (u : Visit). u.peer) vs) differ.0 ∙ each_once now vs nss have.1 differ.1)

pub turn_moved : (lines : List CallLine) (r : RunState) (d d' : RunDomain) (visits : List Visit) (numbers : List (List ℕ)) → Turns Moved visits numbers d d' → Differ (peers_of d) → d.state ≡ r.state → MovedAsTold lines r (peers_of d) (turned visits ∷ []) d.ends d'.ends d.numbered d'.numbered
turn_moved lines r d d' visits numbers turns differ same =
    let s = d.numbered in
    let peers = turns.allowed.each_peer in
    record {
      moves = turn_at s visits numbers;
      told = λ p. unnumbered_turn s visits numbers turns.each p ∙ ap (λ (t : DomainState). turn_told p t visits) (sym d.nameless ∙ same) ∙ sym (append-nil (turn_told p r.state visits));
      moved =
          subst (λ (ms : List (List LaneMove)). AllMoved Moved d.ends ms d'.ends)
          (sym (each_once s visits numbers turns.each (subst Differ (sym peers) differ)) ∙ ap (map (turn_at s visits numbers)) peers) turns.moved;
      deeds = turn_deeds visits numbers;
      numbered = turn-numbered visits numbers turns.each;
      noted = turn-nameless [] visits numbers turns.each ∙ sym (append-nil (map nameless_deed (flat_map (named_deeds []) visits)));
      led = turns.numbered;
      dealt = λ p. turn-dealt p visits numbers s turns.each;
    }

-- ---- a call

given_once : (ns : List ℕ) → map unnumbered (giving ns) ≡ map (λ n. receiver (Gave 0)) ns
given_once [] = refl
given_once (n ∷ ns) = ap (λ (ms : List LaneMove). receiver (Gave 0) ∷ ms) (given_once ns)

-- the buffers of items that go back to a peer
abbrev going_back : ℕ → List Item → List LaneMove
going_back p items = map (λ name. receiver (Gave 0)) (frames_from p items)

-- as many of them as there are frames
as_many : (ns ms : List ℕ) → length ns ≡ length ms → map (λ (n : ℕ). receiver (Gave 0)) ns ≡ map (λ (n : ℕ). receiver (Gave 0)) ms
as_many [] [] e = refl
as_many [] (m ∷ ms) e = absurd (omega (arith, e))
as_many (n ∷ ns) [] e = absurd (omega (arith, e))
as_many (n ∷ ns) (m ∷ ms) e = ap (λ (xs : List LaneMove). receiver (Gave 0) ∷ xs) (as_many ns ms (omega (arith, e)))

unnumbered_call : (ps : List (ℕ × List ℕ)) (items : List Item) (p : ℕ) → map unnumbered (moves_at ps items p) ≡ putting (frames_to p ps) ++ going_back p items
unnumbered_call ps items p =
    unnumbered_putting (frames_to p ps) (giving (frames_from p items))
    ∙ ap (λ (ms : List LaneMove). putting (frames_to p ps) ++ ms) (given_once (frames_from p items))

-- a frame that is put does not change what the next line gives back
back_stays : (lines : List CallLine) (r : RunState) (q : ℕ × List ℕ) (o : Option CallLine) → returned_by o (after lines r (put_entry q)) ≡ returned_by o r
back_stays lines r q None = refl
back_stays lines r q (Some line) = refl

-- the entries of its puts and of its answer
call_told : (lines : List CallLine) (r : RunState) (p : ℕ) (ps : List (ℕ × List ℕ)) (k : ℕ) (a : PlainAnswer) → moves_told lines r p (call_entries ps k a) ≡ putting (frames_to p ps) ++ going_back p (returned_by (next_line lines r) r)
call_told lines r p [] k a = append-nil (going_back p (returned_by (next_line lines r) r))
call_told lines r p (q ∷ ps) k a = go (q.0 == p) (call_told lines (after lines r (put_entry q)) p ps k a ∙ ap (λ (items : List Item). putting (frames_to p ps) ++ going_back p items) (back_stays lines r q (next_line lines r)))
  where
    more : List LaneMove
    more = moves_told lines (after lines r (put_entry q)) p (call_entries ps k a)

    back : List LaneMove
    back = going_back p (returned_by (next_line lines r) r)

    go : (b : Bool) → more ≡ putting (frames_to p ps) ++ back
        → putting (cond b (q.1 ∷ []) []) ++ more ≡ putting (map (λ (x : ℕ × List ℕ). x.1) (cond b (q ∷ filter (λ (x : ℕ × List ℕ). x.0 == p) ps) (filter (λ (x : ℕ × List ℕ). x.0 == p) ps))) ++ back
    go true later = ap (λ (ms : List LaneMove). sender (Sent q.1) ∷ ms) later
    go false later = later

module _ (lines : List CallLine) (r : RunState) (node : ℕ) (call : DomainCall) (old new : RunDomain) (answered : PlainAnswer) (given : Option RequestId) (does : Does Moved node call old new answered given) where
  abbrev frames : List (ℕ × List ℕ)
  frames = puts old.state node call

  abbrev named : List Item
  named = returned old.numbered node call

  dealt : (x : PlainAnswer) (p : ℕ) → unlooked (receives (moves_at frames named p)) ≡ along (deed_moves p) old.numbered (calls node call x ∷ [])
  dealt x p = call-dealt frames named p ∙ sym (append-nil (deals.giving (frames_from p named)))

  -- as many buffers go back as the items of the state without names have frames
  same_back : (p : ℕ) → going_back p named ≡ going_back p (returned old.state node call)
  same_back p = as_many (frames_from p named) (frames_from p (returned old.state node call)) (named-many old node call p)

  -- without the numbers of buffers, what it puts and gives back
  without_numbers : (p : ℕ) → map unnumbered (moves_at frames named p) ≡ putting (frames_to p frames) ++ going_back p (returned old.state node call)
  without_numbers p = unnumbered_call frames named p ∙ ap (λ (ms : List LaneMove). putting (frames_to p frames) ++ ms) (same_back p)

  pub call_moved : (k : ℕ) (a : PlainAnswer) → returned old.state node call ≡ returned_by (next_line lines r) r → call_deeds (next_line lines r) r a ≡ calls node call a ∷ []
      → MovedAsTold lines r (peers_of old) (call_entries frames k a) old.ends new.ends old.numbered new.numbered
  call_moved k a back deed = record {
    moves = moves_at frames named;
    told = λ p. without_numbers p ∙ ap (λ (items : List Item). putting (frames_to p frames) ++ going_back p items) back ∙ sym (call_told lines r p frames k a);
    moved = does.moved;
    deeds = calls node call a ∷ [];
    numbered = (tt, tt);
    noted = ap (map nameless_deed) (sym deed) ∙ sym (call-noted lines r frames k a);
    led = does.numbered;
    dealt = dealt a;
  }

  -- one that is made again does nothing
  pub again_moved : (e : PlainEntry) (a : PlainAnswer) → ((p : ℕ) → entry_told lines r p e ≡ []) → frames ≡ [] → returned old.state node call ≡ [] → entry_deeds lines [] r e ≡ calls node call a ∷ []
      → MovedAsTold lines r (peers_of old) (e ∷ []) old.ends new.ends old.numbered new.numbered
  again_moved e a tells_none no_puts none_back deed = record {
    moves = moves_at frames named;
    told = λ p.
        without_numbers p
        ∙ ap₂ (λ (fs : List (ℕ × List ℕ)) (items : List Item). putting (frames_to p fs) ++ going_back p items) no_puts none_back
        ∙ sym (append-nil (entry_told lines r p e) ∙ tells_none p);
    moved = does.moved;
    deeds = calls node call a ∷ [];
    numbered = (tt, tt);
    noted = ap (map nameless_deed) (sym deed) ∙ sym (append-nil (map nameless_deed (entry_deeds lines [] r e)));
    led = does.numbered;
    dealt = dealt a;
  }

-- ---- one after the other

told_append : (lines : List CallLine) (r : RunState) (p : ℕ) (es fs : List PlainEntry) → moves_told lines r p (es ++ fs) ≡ moves_told lines r p es ++ moves_told lines (after_all lines r es) p fs
told_append lines r p [] fs = refl
told_append lines r p (e ∷ es) fs =
    ap (λ (ms : List LaneMove). entry_told lines r p e ++ ms) (told_append lines (after lines r e) p es fs)
    ∙ sym (append_assoc (entry_told lines r p e) (moves_told lines (after lines r e) p es) (moves_told lines (after_all lines (after lines r e) es) p fs))

deeds_append : (lines : List CallLine) (r : RunState) (es fs : List PlainEntry) → deeds_told lines r (es ++ fs) ≡ deeds_told lines r es ++ deeds_told lines (after_all lines r es) fs
deeds_append lines r [] fs = refl
deeds_append lines r (e ∷ es) fs =
    ap (λ (ds : List Deed). map nameless_deed (entry_deeds lines [] r e) ++ ds) (deeds_append lines (after lines r e) es fs)
    ∙ sym (append_assoc (map nameless_deed (entry_deeds lines [] r e)) (deeds_told lines (after lines r e) es) (deeds_told lines (after_all lines (after lines r e) es) fs))

moved_both : (f g : ℕ → List LaneMove) (ps : List ℕ) (olds bs cs : List RunEnds) → AllMoved Moved olds (map f ps) bs → AllMoved Moved bs (map g ps) cs → AllMoved Moved olds (map (λ p. f p ++ g p) ps) cs
moved_both f g [] [] [] [] first then = tt
moved_both f g [] [] [] (c ∷ cs) first then = absurd then
moved_both f g [] [] (b ∷ bs) cs first then = absurd first
moved_both f g [] (a ∷ olds) bs cs first then = absurd first
moved_both f g (p ∷ ps) [] bs cs first then = absurd first
moved_both f g (p ∷ ps) (a ∷ olds) [] cs first then = absurd first
moved_both f g (p ∷ ps) (a ∷ olds) (b ∷ bs) [] first then = absurd then
moved_both f g (p ∷ ps) (a ∷ olds) (b ∷ bs) (c ∷ cs) first then =
    (EndsMoved-both AnySends AnyReceives AnySends-both AnyReceives-both a b c (f p) (g p) first.0 then.0, moved_both f g ps olds bs cs first.1 then.1)

pub moved_then : (lines : List CallLine) (r : RunState) (ps : List ℕ) (es fs : List PlainEntry) (olds bs cs : List RunEnds) (from mid to : DomainState) → MovedAsTold lines r ps es olds bs from mid → MovedAsTold lines (after_all lines r es) ps fs bs cs mid to → MovedAsTold lines r ps (es ++ fs) olds cs from to
moved_then lines r ps es fs olds bs cs from mid to first then = record {
  moves = λ p. first.moves p ++ then.moves p;
  told = λ p. map-append unnumbered (first.moves p) (then.moves p) ∙ ap₂ (λ (xs ys : List LaneMove). xs ++ ys) (first.told p) (then.told p) ∙ sym (told_append lines r p es fs);
  moved = moved_both first.moves then.moves ps olds bs cs first.moved then.moved;
  deeds = first.deeds ++ then.deeds;
  numbered = all-append IsNumbered first.deeds then.deeds first.numbered then.numbered;
  noted = map-append nameless_deed first.deeds then.deeds ∙ ap₂ (λ (xs ys : List Deed). xs ++ ys) first.noted then.noted ∙ sym (deeds_append lines r es fs);
  led = then.led ∙ ap (λ (s : DomainState). after_deeds s then.deeds) first.led ∙ sym (after-join from first.deeds then.deeds);
  dealt = λ p.
      dealt-append (first.moves p) (then.moves p)
      ∙ ap₂ (λ (xs ys : List ReceiveMove). xs ++ ys) (first.dealt p) (then.dealt p ∙ ap (λ (s : DomainState). along (deed_moves p) s then.deeds) first.led)
      ∙ sym (along-join (deed_moves p) from first.deeds then.deeds);
}

pub all_rest : (n : ℕ) (ps : List ℕ) (es : List RunEnds) → EndsMatch n ps es → AllMoved Moved es (map (λ p. []) ps) es
all_rest n [] [] matched = tt
all_rest n [] (e ∷ es) matched = absurd matched
all_rest n (p ∷ ps) [] matched = absurd matched
all_rest n (p ∷ ps) (Own l ∷ es) matched = (refl, all_rest n ps es matched.1)
all_rest n (p ∷ ps) (Linked l ∷ es) matched = (link-none AnySends AnyReceives AnySends-none AnyReceives-none l, all_rest n ps es matched.2)

-- before the first entry
pub none_moved : (lines : List CallLine) (r : RunState) (n : ℕ) (ps : List ℕ) (es : List RunEnds) → EndsMatch n ps es → (from to : DomainState) → to ≡ from → MovedAsTold lines r ps [] es es from to
none_moved lines r n ps es matched from to same =
    record { moves = λ p. []; told = λ p. refl; moved = all_rest n ps es matched; deeds = []; numbered = tt; noted = refl; led = same; dealt = λ p. refl }
