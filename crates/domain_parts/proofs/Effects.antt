-- What a frame does whose buffer is given back: its steps, what they keep, and what they mean for the state.
use Rattle.std.proofs.Common.{◌≡◌, ℕ, Bool, true, false, cond, List, [], ◌∷◌, map, Option, Some, None, refl, sym, ap, ◌∙◌, subst}
use Rattle.std.specs.Prelude.{find, position, slice_get, ◌==◌}
use Rattle.std.proofs.lemmas.List.{append-nil}
use Rattle.mc_base.specs.declared.channel.Reason.{Reason}
use Rattle.mc_base.specs.declared.refusal.Refusal.TheVariants.{ChanClosed}
use Rattle.board_model.specs.Change.{Change, changed_all, connect_settled, name_found, names_known}
use Rattle.board_model.specs.State as state
use Rattle.board_model.specs.State.{DomainState, has_address_of}
use Rattle.buffer_book.specs.Book.{Book}
use Rattle.request_set.specs.declared.ask.Complete.TheVariants as complete
use Rattle.request_set.specs.Requests.{Requests, Standing}
use Rattle.mc_base.specs.NameMap.{Names}
use Rattle.mc_base.specs.declared.fate.Fate.{Fate}
use Rattle.board_model.specs.TakenFrames.{Row, row}
use Rattle.domain_parts.specs.Records.{Records}
use Rattle.domain_parts.specs.declared.replies.Reply.{Reply}
use Rattle.domain_parts.specs.declared.peer.Peer.{Peer}
use Rattle.domain_parts.specs.declared.requests.Waiters.TheVariants as waiters
use Rattle.domain_parts.specs.InBook.{outcome_in}
use Rattle.domain_parts.specs.InRequests.{MayEnd}
use Rattle.domain_parts.specs.LaneSeen.{LaneSeen}
use Rattle.domain_parts.specs.Parts.{Parts, Sound, state_of}
use Rattle.domain_parts.specs.Steps as steps
use Rattle.domain_parts.specs.Steps.{Step, all_moves, changed_peer, done, done_all, moved_peer, name_told, names_told, receives_ended, step_moves, with_names, with_reply}
use Rattle.domain_parts.specs.Verdicts.{Changes, Effect, IsHeard, IsPlaced, IsReturned, accepts, desk, effect_changes, ends, finds, left_at, left_by, loses, names_left, nothing, outcome_by, records_left, replies, replies_left, requests_left, sets, settled, settles, tells}
use Rattle.domain_parts.proofs.Completing.{ids-all}
use Rattle.domain_parts.proofs.Stepping.{quiet-peers}
use Rattle.domain_parts.proofs.TurnMeaning.{channel_set-is, connect_settled-is, name_told-is, names_told-is, receives_ended-is, reply_owed-is}
use Rattle.domain_parts.proofs.TurnSteps.{channel_set-keeps, connect_settled-keeps, name_told-keeps, names_told-keeps, receives_ended-keeps, reply_owed-keeps}

abbrev pub effect_steps : ℕ → Effect → List Step
effect_steps peer nothing = []
effect_steps peer (loses address i) = []
effect_steps peer (tells names) = names_told peer names ∷ []
effect_steps peer (finds names name address) = names_told peer names ∷ name_told name address ∷ []
effect_steps peer (replies r) = steps.reply_owed peer r ∷ []
effect_steps peer (accepts place address c r) = steps.channel_set place (Some c) ∷ steps.reply_owed peer r ∷ []
effect_steps peer (sets place address c) = steps.channel_set place c ∷ []
effect_steps peer (settles place address c number how) = steps.channel_set place c ∷ steps.connect_settled number (settled how) ∷ []
effect_steps peer (ends place address c at) = receives_ended at ChanClosed ∷ steps.channel_set place c ∷ []

-- what it leaves of its peer
abbrev pub with_left : Effect → Peer LaneSeen → Peer LaneSeen
with_left e x = record x { known = names_left e x.known; replies = replies_left e x.replies }

pub effect-moves : (peer : ℕ) (e : Effect) (c : Step) (n : ℕ) → all_moves (c ∷ effect_steps peer e) n ≡ step_moves c n
effect-moves peer nothing c n = refl
effect-moves peer (loses address i) c n = refl
effect-moves peer (tells names) c n = append-nil (step_moves c n)
effect-moves peer (finds names name address) c n = append-nil (step_moves c n)
effect-moves peer (replies r) c n = append-nil (step_moves c n)
effect-moves peer (accepts place address a r) c n = append-nil (step_moves c n)
effect-moves peer (sets place address a) c n = append-nil (step_moves c n)
effect-moves peer (settles place address a number how) c n = append-nil (step_moves c n)
effect-moves peer (ends place address a at) c n = append-nil (step_moves c n)

pub effect-ids : (e : Effect) (q : Requests) → map (λ (r : Standing). r.id) (requests_left e q).standing ≡ map (λ (r : Standing). r.id) q.standing
effect-ids (finds names name address) q = ids-all (waiters.Lookups name) (complete.Address address) q.standing
effect-ids (settles place address c number how) q = ids-all (waiters.Connects number) (settled how) q.standing
effect-ids (ends place address c at) q = ids-all (waiters.Receives at) (complete.Ended ChanClosed) q.standing
effect-ids other q = refl

pub effect-lent : (e : Effect) (r : Records) → (records_left e r).lent ≡ r.lent
effect-lent (accepts place address c r) rs = refl
effect-lent (sets place address c) rs = refl
effect-lent (settles place address c number how) rs = refl
effect-lent (ends place address c at) rs = refl
effect-lent other rs = refl

-- where the endpoints stay, it is placed as before
pub placed-same : (s s' : DomainState) → s'.endpoints ≡ s.endpoints → (e : Effect) → IsPlaced s e → IsPlaced s' e
placed-same s s' same (accepts place address c r) is = ap (position (has_address_of address)) same ∙ is
placed-same s s' same (sets place address c) is = ap (position (has_address_of address)) same ∙ is
placed-same s s' same (settles place address c number how) is = ap (position (has_address_of address)) same ∙ is
placed-same s s' same (ends place address c at) is = (ap (position (has_address_of address)) same ∙ is.0, record { endpoint = is.1.endpoint; there = ap (find (has_address_of address)) same ∙ is.1.there; named = is.1.named })
placed-same s s' same other is = tt

unchanged : (n : ℕ) (ps : List (Peer LaneSeen)) → map (changed_peer n (λ x. x)) ps ≡ ps
unchanged n [] = refl
unchanged n (x ∷ ps) = ap (λ (y : Peer LaneSeen). y ∷ map (changed_peer n (λ x. x)) ps) (go (n == x.number)) ∙ ap (λ (ys : List (Peer LaneSeen)). x ∷ ys) (unchanged n ps)
  where
    go : (b : Bool) → cond b x x ≡ x
    go true = refl
    go false = refl

may-settle : (number : ℕ) (how : Option Reason) → MayEnd (waiters.Connects number) (settled how)
may-settle number None = tt
may-settle number (Some reason) = tt

settled-is : (b : Book) (how : Option Reason) → outcome_in b (settled how) ≡ outcome_by how
settled-is b None = refl
settled-is b (Some reason) = refl

module _ (p : Parts) (n : ℕ) where
  abbrev quiet : List (Peer LaneSeen)
  quiet = map (moved_peer (λ k. [])) p.peers

  abbrev pub left_parts : Effect → Parts
  left_parts e = record p { records = records_left e p.records; requests = requests_left e p.requests; peers = map (changed_peer n (with_left e)) p.peers }

  stays : (e : Effect) → record p { records = records_left e p.records; requests = requests_left e p.requests; peers = p.peers } ≡ record p { records = records_left e p.records; requests = requests_left e p.requests; peers = map (changed_peer n (λ x. x)) p.peers }
  stays e = ap (λ (ps : List (Peer LaneSeen)). record p { records = records_left e p.records; requests = requests_left e p.requests; peers = ps }) (sym (unchanged n p.peers))

  pub effect-done : (e : Effect) → done_all (effect_steps n e) p ≡ left_parts e
  effect-done nothing = stays nothing
  effect-done (loses address i) = stays (loses address i)
  effect-done (tells names) = refl
  effect-done (finds names name address) = ap (λ (ps : List (Peer LaneSeen)). record p { requests = requests_left (finds names name address) p.requests; peers = ps }) (quiet-peers (map (changed_peer n (with_names names)) p.peers))
  effect-done (replies r) = refl
  effect-done (accepts place address c r) = ap (λ (ps : List (Peer LaneSeen)). record p { records = records_left (accepts place address c r) p.records; peers = map (changed_peer n (with_reply r)) ps }) (quiet-peers p.peers)
  effect-done (sets place address c) = ap (λ (ps : List (Peer LaneSeen)). record p { records = records_left (sets place address c) p.records; peers = ps }) (quiet-peers p.peers) ∙ stays (sets place address c)
  effect-done (settles place address c number how) =
      ap (λ (ps : List (Peer LaneSeen)). record p { records = records_left (settles place address c number how) p.records; requests = requests_left (settles place address c number how) p.requests; peers = ps }) (quiet-peers quiet ∙ quiet-peers p.peers)
      ∙ stays (settles place address c number how)
  effect-done (ends place address c at) =
      ap (λ (ps : List (Peer LaneSeen)). record p { records = records_left (ends place address c at) p.records; requests = requests_left (ends place address c at) p.requests; peers = ps }) (quiet-peers quiet ∙ quiet-peers p.peers)
      ∙ stays (ends place address c at)

  pub effect-keeps : Sound p → (e : Effect) → Sound (done_all (effect_steps n e) p)
  effect-keeps sound nothing = sound
  effect-keeps sound (loses address i) = sound
  effect-keeps sound (tells names) = names_told-keeps p n names sound
  effect-keeps sound (finds names name address) = name_told-keeps (done (names_told n names) p) name address (names_told-keeps p n names sound)
  effect-keeps sound (replies r) = reply_owed-keeps p n r sound
  effect-keeps sound (accepts place address c r) = reply_owed-keeps (done (steps.channel_set place (Some c)) p) n r (channel_set-keeps p place (Some c) sound)
  effect-keeps sound (sets place address c) = channel_set-keeps p place c sound
  effect-keeps sound (settles place address c number how) = connect_settled-keeps (done (steps.channel_set place c) p) number (settled how) (may-settle number how) (channel_set-keeps p place c sound)
  effect-keeps sound (ends place address c at) = channel_set-keeps (done (receives_ended at ChanClosed) p) place c (receives_ended-keeps p at ChanClosed sound)

  module _ (sound : Sound p) (i : ℕ) (x : Peer LaneSeen) (there : slice_get p.peers i ≡ Some x) (is : x.number ≡ n) where
    quiet_there : slice_get quiet i ≡ Some x
    quiet_there = subst (λ (ps : List (Peer LaneSeen)). slice_get ps i ≡ Some x) (sym (quiet-peers p.peers)) there

    pub effect-is : (e : Effect) → IsPlaced (state_of p) e → state_of (done_all (effect_steps n e) p) ≡ changed_all (state_of p) (effect_changes n e)
    effect-is nothing placed = refl
    effect-is (loses address i) placed = refl
    effect-is (tells names) placed = subst (λ (m : ℕ). state_of (done (names_told m names) p) ≡ changed_all (state_of p) (names_known m names ∷ [])) is (names_told-is p sound i x there names)
    effect-is (finds names name address) placed =
        name_told-is (done (names_told n names) p) name address
        ∙ ap (λ (s : DomainState). changed_all s (name_found name address ∷ []))
        (subst (λ (m : ℕ). state_of (done (names_told m names) p) ≡ changed_all (state_of p) (names_known m names ∷ [])) is (names_told-is p sound i x there names))
    effect-is (replies r) placed = subst (λ (m : ℕ). state_of (done (steps.reply_owed m r) p) ≡ changed_all (state_of p) (effect_changes m (replies r))) is (reply_owed-is p sound i x there r)
    effect-is (accepts place address c r) placed =
        let p1 = done (steps.channel_set place (Some c)) p in
        subst (λ (m : ℕ). state_of (done (steps.reply_owed m r) p1) ≡ changed_all (state_of p1) (effect_changes m (replies r))) is (reply_owed-is p1 (channel_set-keeps p place (Some c) sound) i x quiet_there r)
        ∙ ap (λ (s : DomainState). changed_all s (effect_changes n (replies r))) (channel_set-is p place address (Some c) placed)
    effect-is (sets place address c) placed = channel_set-is p place address c placed
    effect-is (settles place address c number how) placed =
        let p1 = done (steps.channel_set place c) p in
        connect_settled-is p1 number (settled how)
        ∙ ap (λ (o : state.Outcome). changed_all (state_of p1) (connect_settled number o ∷ [])) (settled-is p1.book how)
        ∙ ap (λ (s : DomainState). changed_all s (connect_settled number (outcome_by how) ∷ [])) (channel_set-is p place address c placed)
    effect-is (ends place address c at) placed =
        channel_set-is (done (receives_ended at ChanClosed) p) place address c placed.0
        ∙ ap (λ (s : DomainState). changed_all s (left_at address c ∷ [])) (receives_ended-is p at ChanClosed address placed.1.endpoint placed.1.there placed.1.named)

-- ---- what an announcement does

pub heard-returned : (s : DomainState) (peer : ℕ) (its other : Row) (word : Fate) (r : Records) (rs : List Reply) (ns ns' : Names) (q q' : Requests) → its ≡ other → IsHeard peer other word ns ns' q q' → IsReturned s peer its word (desk r q ns rs) (desk r q' ns' rs)
heard-returned s peer its other word r rs ns ns' q q' same heard = go heard.happens heard.row_is heard.changes
  where
    by : (e : Effect) → other ≡ row true word (effect_changes peer e) → IsPlaced s e → desk r q' ns' rs ≡ left_by e (desk r q ns rs) → IsReturned s peer its word (desk r q ns rs) (desk r q' ns' rs)
    by e is placed left = record { effect = e; applies = true; row_is = same ∙ is; returned = heard.returned; placed = placed; left = left }

    go : (cs : List Change) → other ≡ row true word cs → Changes peer cs ns ns' q q' → IsReturned s peer its word (desk r q ns rs) (desk r q' ns' rs)
    go [] is does = by nothing is tt (ap (λ n. desk r q' n rs) does.0 ∙ ap (λ z. desk r z ns rs) does.1)
    go (names_known n ms ∷ []) is does = by (tells ms) (is ∙ ap (λ k. row true word (names_known k ms ∷ [])) does.0) tt (ap (λ k. desk r q' k rs) does.1 ∙ ap (λ z. desk r z ms rs) does.2)
    go (names_known n ms ∷ name_found name address ∷ []) is does = by (finds ms name address) (is ∙ ap (λ k. row true word (names_known k ms ∷ name_found name address ∷ [])) does.0) tt (ap (λ k. desk r q' k rs) does.1 ∙ ap (λ z. desk r z ms rs) does.2)
    go others is does = absurd does
