-- What a station holds beside its ends goes along with a turn: the ids of its requests, its journal and the count of drops.
use Rattle.std.proofs.Common.{◌≡◌, ℕ, ◌+◌, ◌<◌, Bool, true, false, cond, List, [], ◌∷◌, ◌++◌, map, flat_map, Option, Some, None, sum_by, refl, sym, ap, ◌∙◌, subst, arith}
use Rattle.std.specs.Prelude.{IfSome, ◌≢◌, ◌==◌}
use Rattle.std.specs.List.{AllByRecursion}
use Rattle.std.proofs.lemmas.List.Sums.{sum_by-cons, sum_by-append}
use Rattle.mc_base.specs.Limits.{no_key}
use Rattle.mc_base.specs.declared.request.RequestId.{RequestId}
use Rattle.board_model.specs.declared.scenario.CallLine.{CallLine}
use Rattle.board_model.specs.declared.scenario.Scenario.{Scenario}
use Rattle.board_model.specs.Scenario.{script}
use Rattle.board_model.specs.State.{DomainState}
use Rattle.board_model.specs.Labels.{Labelled}
use Rattle.board_model.specs.Journal.{Line, back_line, put_line, see_line, looked, taken_line, visit_lines, Visit, Taken, PlainEntry, turned, noted, joined}
use Rattle.board_model.specs.Tallies.{deleted_in}
use Rattle.board_model.specs.Turn.{after_turn}
use Rattle.board_model.specs.SerialRun as run
use Rattle.board_model.specs.SerialRun.{entered}
use Rattle.board_model.proofs.ListsJoined.{entry_lines, sum-joined}
use Rattle.board_model.proofs.MessageAlls.{all-append}
use Rattle.board_model.proofs.SerialRequests.{turn_serials, turn_gives}
use Rattle.board_model.proofs.WholeTurns.{turn_number}
use Rattle.board_model.proofs.KeptTold.{sum_none}
use Rattle.mc_journal.specs.Written.{Written}
use Rattle.domain_core.specs.Turned.{Turns}
use Rattle.board_runner.specs.declared.station.Station.{Station}
use Rattle.board_runner.specs.Held.{Ids, id_for}
use Rattle.board_runner.specs.Near.{RunDomain, peers_of, EndsMatch}
use Rattle.board_runner.specs.Stations.{IsKnown, HoldsIds, IsStation}
use Rattle.board_runner.proofs.TurnEnds.{Moved}
use Rattle.board_runner.proofs.PacketLemmas.{packets_stay}
use Rattle.board_runner.proofs.SerialPackets.{packets, turn-lends, turn-packets}
use Rattle.domain_core.proofs.WaitSteps.{noted-append}

-- ---- ids

if_weaker : {A : Type 0} (P Q : A → Type 0) (o : Option A) → ((x : A) → P x → Q x) → IfSome o P → IfSome o Q
if_weaker P Q None f h = tt
if_weaker P Q (Some x) f h = f x h

-- where a domain's requests and their ids stay, the ids that are held for labels stay those of the labels' requests
pub ids-stay : (d d' : RunDomain) (ids : Ids) (labels : List Labelled) (lines : ℕ) → d'.state.requests_given ≡ d.state.requests_given → map (λ q. q.serial) d'.state.requests ≡ map (λ q. q.serial) d.state.requests → d'.ids ≡ d.ids → HoldsIds d ids labels lines → HoldsIds d' ids labels lines
ids-stay d d' ids labels lines given serials same h =
    let below : AllByRecursion (λ (i : RequestId). i.serial < d'.state.requests_given) d.ids = subst (λ (g : ℕ). AllByRecursion (λ (i : RequestId). i.serial < g) d.ids) (sym given) h.given in
    record {
      few = omega (arith, h.few, given);
      serials = ap (map (λ (i : RequestId). i.serial)) same ∙ h.serials ∙ sym serials;
      given = subst (AllByRecursion (λ (i : RequestId). i.serial < d'.state.requests_given)) (sym same) below;
      keys = subst (AllByRecursion (λ (i : RequestId). i.key ≢ no_key)) (sym same) h.keys;
      told = h.told;
      known = λ label. if_weaker (IsKnown d) (IsKnown d') (id_for ids label) still (h.known label);
    }
  where
    still : (id : RequestId) → IsKnown d id → IsKnown d' id
    still id known =
        let less = known.given in
        record { given = omega (arith, less, given); only = subst (AllByRecursion (λ (i : RequestId). i.serial ≡ id.serial → i.key ≡ id.key)) (sym same) known.only }

-- ---- the journal, and its deletes

module _ (lines : List CallLine) where
  abbrev deletes_in : PlainEntry → ℕ
  deletes_in e = sum_by (deleted_in lines) (entry_lines e)

  deletes-joined : (es : List PlainEntry) → sum_by (deleted_in lines) (joined es) ≡ sum_by deletes_in es
  deletes-joined es = sum-joined (deleted_in lines) deletes_in (record { idle = λ k. refl; again = λ w. refl; spin = λ k w. refl; turn = refl }) es (same es)
    where
      same : (fs : List PlainEntry) → AllByRecursion (λ e. deletes_in e ≡ sum_by (deleted_in lines) (entry_lines e)) fs
      same [] = tt
      same (f ∷ fs) = (refl, same fs)

  -- an entry more adds the deletes of its lines
  pub deleted-noted : (es : List PlainEntry) (e : PlainEntry) → sum_by (deleted_in lines) (noted (joined es) e) ≡ sum_by (deleted_in lines) (joined es) + sum_by (deleted_in lines) (entry_lines e)
  deleted-noted es e =
      omega (
        arith,
        deletes-joined es,
        deletes-joined (es ++ e ∷ []),
        ap (sum_by (deleted_in lines)) (noted-append [] es (e ∷ [])),
        sum_by-append deletes_in es (e ∷ []),
        sum_by-cons deletes_in e [],
      )

  abbrev NoDelete : Line → Type 0
  NoDelete l = deleted_in lines l ≡ 0

  looked_none : (b : Bool) (l : Line) → NoDelete l → AllByRecursion NoDelete (cond b [] (l ∷ []))
  looked_none true l none = tt
  looked_none false l none = (none, tt)

  puts_none : (p : ℕ) (fs : List (List ℕ)) → AllByRecursion NoDelete (map (put_line p) fs)
  puts_none p [] = tt
  puts_none p (f ∷ fs) = (refl, puts_none p fs)

  takes_none : (p : ℕ) (ts : List Taken) → AllByRecursion NoDelete (map (taken_line p) ts)
  takes_none p [] = tt
  takes_none p (t ∷ ts) = (refl, takes_none p ts)

  visit_none : (v : Visit) → AllByRecursion NoDelete (visit_lines v)
  visit_none v =
      let takes = map (taken_line v.peer) v.takes in
      let sees = looked (see_line v.peer) v.see in
      let puts = map (put_line v.peer) v.owed in
      all-append NoDelete (looked (back_line v.peer) v.back) (puts ++ (sees ++ takes)) (looked_none (v.back == 0) (back_line v.peer v.back) refl)
      (all-append NoDelete puts (sees ++ takes) (puts_none v.peer v.owed)
      (all-append NoDelete sees takes (looked_none (v.see == 0) (see_line v.peer v.see) refl) (takes_none v.peer v.takes)))

  visits_none : (vs : List Visit) → AllByRecursion NoDelete (flat_map visit_lines vs)
  visits_none [] = tt
  visits_none (v ∷ vs) = all-append NoDelete (visit_lines v) (flat_map visit_lines vs) (visit_none v) (visits_none vs)

  -- a turn deletes nothing
  pub deleted-turned : (es : List PlainEntry) (vs : List Visit) → sum_by (deleted_in lines) (noted (joined es) (turned vs)) ≡ sum_by (deleted_in lines) (joined es)
  deleted-turned es vs = omega (arith, deleted-noted es (turned vs), sum_none (deleted_in lines) (entry_lines (turned vs)) (refl, visits_none vs))

-- ---- a station

-- with another domain and journal
abbrev pub turned_station : Station → RunDomain → Written → Station
turned_station st d j = record st { domain = d; journal = j }

pub station-turned : (s : Scenario) (t : run.Station) (st : Station) (visits : List Visit) (numbers : List (List ℕ)) (d' : RunDomain) (j : Written)
    → IsStation s t st → Turns Moved visits numbers st.domain d' → j.lines ≡ noted st.journal.lines (turned visits) → peers_of d' ≡ peers_of st.domain → EndsMatch t.line.domain (peers_of d') d'.ends
    → IsStation s (entered s (turned visits) t) (turned_station st d' j)
station-turned s t st visits numbers d' j h turns told peers matched =
    let lines : j.lines ≡ noted (joined t.entries) (turned visits) = told ∙ ap (λ (ls : List Line). noted ls (turned visits)) h.told in
    record {
      state = turns.state ∙ ap (λ (x : DomainState). after_turn x visits) h.state;
      told = lines ∙ sym (noted-append [] t.entries (turned visits ∷ []));
      number = h.number;
      held = record {
        requests =
            ids-stay st.domain d' st.ids t.run.labels.requests t.run.lines_called
            (ap (λ (x : DomainState). x.requests_given) turns.state ∙ turn_gives st.domain.state visits)
            (ap (λ (x : DomainState). map (λ q. q.serial) x.requests) turns.state ∙ turn_serials st.domain.state visits) turns.ids h.held.requests;
        packets =
            packets_stay st.domain d' st.packets t.run.labels.packets t.run.lines_called
            (ap (λ (x : DomainState). x.packets_lent) turns.state ∙ turn-lends st.domain.state visits)
            (ap packets turns.state ∙ turn-packets st.domain.state visits) turns.packets h.held.packets;
      };
      dropped =
          h.dropped ∙ ap (sum_by (deleted_in (script s t.line.domain))) h.told
          ∙ sym (deleted-turned (script s t.line.domain) t.entries visits) ∙ ap (sum_by (deleted_in (script s t.line.domain))) (sym lines);
      own = turn_number t.run.state visits ∙ h.own;
      domain_number = h.domain_number;
      peers = peers ∙ h.peers;
      matched = matched;
    }
