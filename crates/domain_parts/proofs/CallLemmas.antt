-- A call is its turn, and then what it does itself.
use Rattle.std.proofs.Common.{◌≡◌, ℕ, Bool, List, [], ◌∷◌, ◌++◌, map, Option, Some, None, refl, sym, ap, ◌∙◌, subst}
use Rattle.std.specs.Prelude.{IfSome, option_to_list}
use Rattle.std.proofs.lemmas.List.{append-nil}
use Rattle.mc_base.specs.declared.refusal.Refusal.{Refusal}
use Rattle.mc_base.specs.declared.request.RequestId.{RequestId}
use Rattle.board_model.specs.DomainCall.{DomainCall, turn_alone}
use Rattle.board_model.specs.Journal.{Line, PlainAnswer, agrees, noted_all}
use Rattle.board_model.specs.Labels.{success_packet}
use Rattle.board_model.specs.Lists.{without}
use Rattle.board_model.specs.State as state
use Rattle.board_model.specs.State.{frames_from}
use Rattle.board_model.specs.Answer.{answer, puts, refusal, success_puts, unless_refused}
use Rattle.board_model.specs.Change.{changed_all}
use Rattle.board_model.specs.CallChanges.{effect, returned, success_changes, success_returned}
use Rattle.board_model.specs.Serial.{put_entry}
use Rattle.board_model.specs.Unnamed.{no_names, unnamed}
use Rattle.board_model.proofs.RenamedLabels.{given-renamed}
use Rattle.board_model.proofs.RenamedCalls.{answer-renamed, puts-renamed}
use Rattle.domain_parts.specs.AllMoved.{AllMoved, call_moves, moves_at, numbers_of}
use Rattle.domain_parts.specs.Calls.{Calls, Does, IsFresh, success_releases}
use Rattle.domain_parts.specs.CallSteps.{Acted, Acts, Rests, Succeeds, call_steps}
use Rattle.domain_parts.specs.DomainView.{DomainView}
use Rattle.domain_parts.specs.LaneMoves.{LaneMove}
use Rattle.domain_parts.specs.Parts.{Holding, Parts, plain, shown, state_of, parts_read}
use Rattle.domain_parts.specs.Steps.{all_moves}
use Rattle.domain_parts.specs.Turned.{MakesTurn}
use Rattle.domain_parts.proofs.Calling.{puts-done, puts-nothing}
use Rattle.domain_parts.proofs.Ending.{ended-done, ended-refused, ids_in}
use Rattle.domain_parts.proofs.GivingLemmas.{numbers-in}
use Rattle.domain_parts.proofs.Unnaming.{effect-unnamed, ended-unnamed, released-unnamed}

map-same : {A B : Type 0} (f g : A → B) → ((x : A) → f x ≡ g x) → (xs : List A) → map f xs ≡ map g xs
map-same f g is [] = refl
map-same f g is (x ∷ xs) = let one = is x in let rest = map-same f g is xs in cc

module _ {L : Type 0} (M : L → List LaneMove → L → Type 0) (node : ℕ) (call : DomainCall) (old new : Holding L) (answered : PlainAnswer) (given : Option RequestId) where
  abbrev p : Parts
  p = old.parts

  abbrev s : state.DomainState
  s = state_of p

  -- the same without names
  abbrev u : state.DomainState
  u = unnamed s

  -- moves at all peers, in the words of the state
  moved-in : (frames : List (ℕ × List ℕ)) → frames ≡ puts s node call → (items : List state.Item) → items ≡ returned s node call → (f : ℕ → List LaneMove) → ((n : ℕ) → f n ≡ moves_at frames items n) → (ends : List L) → AllMoved M old.ends (map f (numbers_of p.peers)) ends
      → AllMoved M old.ends (call_moves (puts u node call) (returned s node call) (map (λ (x : state.Peer). x.number) u.peers)) ends
  moved-in frames is items back f same ends moved =
      subst (λ (is : List state.Item). AllMoved M old.ends (call_moves (puts u node call) is (map (λ (x : state.Peer). x.number) u.peers)) ends) back
      (subst (λ (fs : List (ℕ × List ℕ)). AllMoved M old.ends (call_moves fs items (map (λ (x : state.Peer). x.number) s.peers)) ends) (is ∙ sym (puts-renamed no_names s node call))
      (subst (λ (ns : List ℕ). AllMoved M old.ends (call_moves frames items ns) ends) (sym (numbers-in plain (parts_read p) p.table p.peers))
      (subst (λ ms. AllMoved M old.ends ms ends) (map-same f (moves_at frames items) same (numbers_of p.peers)) moved)))

  fresh-in : (o : Option RequestId) → IfSome o (IsFresh (ids_in p.requests) s) → IfSome o (IsFresh (ids_in p.requests) u)
  fresh-in None fresh = tt
  fresh-in (Some id) fresh = record { differs = fresh.differs; is_key = fresh.is_key; serial = fresh.serial }

  refused : (word : Refusal) → refusal s node call ≡ Some word → answered ≡ answer s node call → Rests M old → new ≡ old → given ≡ None → Does M node call (shown old) (shown new) answered given
  refused word e answer-is rests same none =
      let stays : s ≡ effect s node call = sym (ap (λ (o : Option Refusal). changed_all s (unless_refused o [] (success_changes s node call))) e) in
      let nothing : [] ≡ returned s node call = sym (ap (λ (o : Option Refusal). unless_refused o [] (success_returned s node call)) e) in
      subst (λ (h : Holding L). Does M node call (shown old) (shown h) answered given) (sym same)
      (subst (λ (o : Option RequestId). Does M node call (shown old) (shown old) answered o) (sym none)
      (record {
        answer = answer-is ∙ sym (answer-renamed no_names s node call);
        state = ap unnamed stays ∙ effect-unnamed s node call;
        numbered = stays;
        moved = moved-in [] (sym (ap (λ (o : Option Refusal). unless_refused o [] (success_puts s node call)) e)) [] nothing (λ n. []) (λ n. refl) old.ends rests;
        ids = sym (append-nil (without _ (ids_in p.requests)) ∙ ap (λ (o : Option ℕ). without o (ids_in p.requests)) (ended-unnamed s node call ∙ ended-refused s node call word e));
        fresh = tt;
        lent = None;
        packets = sym (append-nil (without _ p.records.lent) ∙ ap (λ (o : Option ℕ). without o p.records.lent) (released-unnamed s node call) ∙ ap (λ (o : Option Refusal). without (unless_refused o None (success_releases call)) p.records.lent) e);
        lends = sym (given-renamed no_names s node call ∙ ap (λ (o : Option Refusal). unless_refused o None (success_packet s call)) e);
      }))

  succeeded : refusal s node call ≡ None → answered ≡ answer s node call → Succeeds M node call old new given → Does M node call (shown old) (shown new) answered given
  succeeded e answer-is done =
      let m = done.means in
      let after : state_of new.parts ≡ effect s node call = ap state_of done.did.parts ∙ m.state ∙ sym (ap (λ (o : Option Refusal). changed_all s (unless_refused o [] (success_changes s node call))) e) in
      let back : success_returned s node call ≡ returned s node call = sym (ap (λ (o : Option Refusal). unless_refused o [] (success_returned s node call)) e) in
      record {
        answer = answer-is ∙ sym (answer-renamed no_names s node call);
        state = ap unnamed after ∙ effect-unnamed s node call;
        numbered = after;
        moved = moved-in (success_puts s node call) (sym (puts-done s node call e)) (success_returned s node call) back (all_moves (call_steps p node call given)) m.moves new.ends done.did.moved;
        ids = ap (λ (x : Parts). ids_in x.requests) done.did.parts ∙ m.ids ∙ ap (λ (o : Option ℕ). without o (ids_in p.requests) ++ option_to_list given) (sym (ended-unnamed s node call ∙ ended-done s node call e));
        fresh = fresh-in given m.fresh;
        lent = m.lent;
        packets = ap (λ (x : Parts). x.records.lent) done.did.parts ∙ m.packets ∙ ap (λ (o : Option Refusal). without (unless_refused o None (success_releases call)) p.records.lent ++ option_to_list m.lent) (sym e)
            ∙ ap (λ (o : Option ℕ). without o p.records.lent ++ option_to_list m.lent) (sym (released-unnamed s node call));
        lends = m.lends ∙ sym (given-renamed no_names s node call ∙ ap (λ (o : Option Refusal). unless_refused o None (success_packet s call)) e);
      }

  -- what a call does inside is what it does
  pub does-of : Rests M old → Acts M node call old new answered given → Does M node call (shown old) (shown new) answered given
  does-of rests acts = by (refusal s node call) refl
    where
      by : (o : Option Refusal) → refusal s node call ≡ o → Does M node call (shown old) (shown new) answered given
      by None e = succeeded e acts.answer (subst (λ (o : Option Refusal). Acted M o node call old new given) e acts.did)
      by (Some word) e =
          let same : (new ≡ old) × (given ≡ None) = subst (λ (o : Option Refusal). Acted M o node call old new given) e acts.did in
          refused word e acts.answer rests same.0 same.1

  -- ---- a turn and a call's part are a call
  module _ (first : DomainView L) (lines lines' : List Line) (idle : Bool) where
    -- with the frames that it puts
    pub calls-put : (lines'' : List Line) → MakesTurn M first (shown old) lines lines' idle → Rests M old → Acts M node call old new answered given → lines'' ≡ noted_all lines' (map put_entry (puts s node call)) → Calls M node call first (shown new) lines lines'' answered given
    calls-put lines'' turn rests acts told =
        record {
          visits = turn.visits;
          numbers = turn.numbers;
          turned_to = shown old;
          turns = turn.turns;
          does = does-of rests acts;
          told = told ∙ ap (λ (fs : List (ℕ × List ℕ)). noted_all lines' (map put_entry fs)) (sym (puts-renamed no_names s node call)) ∙ ap (λ (ls : List Line). noted_all ls (map put_entry (puts u node call))) turn.told;
        }

    -- where it never puts any
    pub calls-of : success_puts s node call ≡ [] → MakesTurn M first (shown old) lines lines' idle → Rests M old → Acts M node call old new answered given → Calls M node call first (shown new) lines lines' answered given
    calls-of none turn rests acts =
        calls-put lines' turn rests acts (ap (λ (ps : List (ℕ × List ℕ)). noted_all lines' (map put_entry ps)) (sym (puts-nothing s node call none)))

-- a turn alone does nothing after it
pub turn-acts : {L : Type 0} (M : L → List LaneMove → L → Type 0) (h : Holding L) → Rests M h → Acts M 0 turn_alone h h agrees None
turn-acts M h rests = record {
  answer = refl;
  did = record {
    did = record { parts = refl; moved = rests };
    means = record {
      state = refl;
      moves = λ n. refl;
      ids = sym (append-nil (ids_in h.parts.requests));
      fresh = tt;
      lent = None;
      packets = sym (append-nil h.parts.records.lent);
      lends = refl;
    };
  };
}
