-- The packets of a domain whose log fits a role: what channel 1 of its own accepts is what its calls sent, and what its receives took, each of
-- some channel, is what they returned.
use Rattle.std.proofs.Common.{◌≡◌, ℕ, ◌-◌, ◌≤◌, Bool, true, false, cond, List, [], ◌∷◌, ◌++◌, map, flat_map, length, Some, None, option_to_list, refl, ap, ap₂, sym, subst, ◌∙◌, arith, inl, inr}
use Rattle.std.specs.Prelude.{◌==◌}
use Rattle.std.specs.List.{AllByRecursion}
use Rattle.std.proofs.lemmas.Bool.{cases_Bool, eq-eqb}
use Rattle.std.proofs.lemmas.List.{append-nil, map-append}
use Rattle.mc_base.specs.declared.name.Local.{Local}
use Rattle.mc_base.specs.declared.channel.Kind.TheVariants.{Packet}
use Rattle.board_model.specs.Answer.{local, holds, words_of, refusal, success, lent_whole}
use Rattle.board_model.specs.CallChanges.{at_channel, at_end, at_live}
use Rattle.board_model.specs.ChannelEnds.{sends, receives}
use Rattle.board_model.specs.Channels.{accepted_by, sent_over, is_of_channel}
use Rattle.board_model.specs.Choice.{oldest}
use Rattle.board_model.specs.Deeds.{Deed, calls, after_deed, MayDo, AllMayDo, along}
use Rattle.board_model.specs.DomainCall.{packet_from, lend_at, scalar_from, receive_at, scalar_at}
use Rattle.board_model.specs.Journal.{agrees, gives, tells}
use Rattle.board_model.specs.State.{Item, ChannelEnd, Endpoint, Asked, message_at, packet_at, Request, DomainState, is_at, live_at, queue_in, queue_at}
use Rattle.board_model.specs.Takings.{Taking, taking, asked_address, item_held, held_before, completed_by, answered_by, takings_by}
use Rattle.board_model.proofs.HearingLaw.{fewer_room}
use Rattle.board_model.proofs.HearingLaw as hearing
use Rattle.board_model.proofs.ListsOne.{empty_parts}
use Rattle.board_model.proofs.MessageAlls.{all-append, none-passes}
use Rattle.board_model.proofs.OrderLookups.{live_here, end_here, live_found}
use Rattle.board_model.proofs.OrderSerials.{Serials, succeeds, all_succeed}
use Rattle.board_model.proofs.OrderSound.{Sound, Bound, sound_bound}
use Rattle.hop_relay.specs.LogDeeds.{sent_in, received_in}
use Rattle.hop_relay.proofs.RoleLines.{mark}
use Rattle.hop_relay.proofs.RelayDeeds.{strays_in, Answered, was_refused, was_done, answered}
use Rattle.hop_relay.proofs.RelayStates.{AsksNoItem, NoneAsks, deed_keeps}

-- an empty mark
marked : (b : Bool) → mark b ≡ [] → b ≡ true
marked true none = refl
marked false none = absurd cc

-- ---- a call at an end, where it was answered

-- the endpoint and its channel
record AtEnd (s : DomainState) (at : Local) : Type 0 where
  place : Endpoint
  end : ChannelEnd
  live : live_at s at ≡ Some place
  has : place.channel ≡ Some end

sends_at : (s : DomainState) (node port : ℕ) (bytes : List ℕ) → refusal s node (packet_from port bytes) ≡ None → AtEnd s (local node port)
sends_at s node port bytes none =
    let words = none-passes (holds s node (packet_from port bytes)) (words_of (packet_from port bytes)) none in
    let e = live_here s (local node port) words.0 in
    let c = end_here s (local node port) e.0 (sends Packet) e.1 words.1.0 in
    record { place = e.0; end = c.0; live = e.1; has = c.1 }

lends_at : (s : DomainState) (node port : ℕ) → refusal s node (lend_at port) ≡ None → AtEnd s (local node port)
lends_at s node port none =
    let words = none-passes (holds s node (lend_at port)) (words_of (lend_at port)) none in
    let e = live_here s (local node port) words.0 in
    let c = end_here s (local node port) e.0 (receives Packet (length (queue_at s (local node port)))) e.1 words.1.0 in
    record { place = e.0; end = c.0; live = e.1; has = c.1 }

-- ---- what is accepted

module _ (s : DomainState) (node port : ℕ) (bytes : List ℕ) where
  over_it : (at : AtEnd s (local node port)) (m : ℕ) → accepted_by m s (calls node (packet_from port bytes) agrees) ≡ cond (at.end.number == m) (bytes ∷ []) []
  over_it at m = ap (λ o. at_end o (sent_over m bytes)) at.live ∙ ap (λ c. at_channel c (sent_over m bytes at.place)) at.has

  send_accepts : MayDo s (calls node (packet_from port bytes) agrees) → mark (port == 1) ≡ [] → ((m : ℕ) → (m == 1) ≡ false → accepted_by m s (calls node (packet_from port bytes) agrees) ≡ []) →
      accepted_by 1 s (calls node (packet_from port bytes) agrees) ≡ cond (port == 1) (bytes ∷ []) []
  send_accepts may free others = go (answered s node (packet_from port bytes) agrees may)
    where
      by_number : (at : AtEnd s (local node port)) → accepted_by 1 s (calls node (packet_from port bytes) agrees) ≡ bytes ∷ []
      by_number at = elim (cases_Bool (at.end.number == 1)) [
        | inl one ↦ over_it at 1 ∙ ap (λ b. cond b (bytes ∷ []) []) one
        | inr far ↦
            let none : bytes ∷ [] ≡ [] = sym (over_it at at.end.number ∙ ap (λ b. cond b (bytes ∷ []) []) (eq-eqb at.end.number at.end.number refl)) ∙ others at.end.number far in
            absurd cc
      ]

      go : Answered s node (packet_from port bytes) agrees → accepted_by 1 s (calls node (packet_from port bytes) agrees) ≡ cond (port == 1) (bytes ∷ []) []
      go (was_refused w at is) = absurd cc
      go (was_done at is) = by_number (sends_at s node port bytes at) ∙ ap (λ b. cond b (bytes ∷ []) []) (sym (marked (port == 1) free))

one_accepted : (s : DomainState) (d : Deed) → MayDo s d → strays_in s d ≡ [] → ((m : ℕ) → (m == 1) ≡ false → accepted_by m s d ≡ []) → accepted_by 1 s d ≡ sent_in s d
one_accepted s (calls node (packet_from port bytes) agrees) may free others = send_accepts s node port bytes may free others
one_accepted s (calls node (scalar_from port bits value) agrees) may free others = absurd cc
one_accepted s d may free others = refl

pub all_accepted : (s : DomainState) (ds : List Deed) → AllMayDo s ds → along strays_in s ds ≡ [] → ((m : ℕ) → (m == 1) ≡ false → along (accepted_by m) s ds ≡ []) → along (accepted_by 1) s ds ≡ along sent_in s ds
all_accepted s [] may free others = refl
all_accepted s (d ∷ ds) may free others =
    let parts = empty_parts (strays_in s d) (along strays_in (after_deed s d) ds) free in
    let split = λ (m : ℕ) (far : (m == 1) ≡ false). empty_parts (accepted_by m s d) (along (accepted_by m) (after_deed s d) ds) (others m far) in
    ap₂ (λ (xs ys : List (List ℕ)). xs ++ ys) (one_accepted s d may.0 parts.0 (λ m far. (split m far).0)) (all_accepted (after_deed s d) ds may.1 parts.1 (λ m far. (split m far).1))

-- ---- what is taken: by receives that answer alone

no_address : (s : DomainState) (asked : Asked) → AsksNoItem asked → asked_address s asked ≡ []
no_address s (message_at at max) free = absurd free
no_address s (packet_at at) free = absurd free
no_address s asked free = refl

completes_none : (s : DomainState) (r : Request) → AsksNoItem r.asked → completed_by s r ≡ []
completes_none s r free = go (held_before s r.serial) (item_held r.outcome)
  where
    each : (items : List Item) → flat_map (λ i. map (λ a. taking (Some r.serial) a i) (asked_address s r.asked)) items ≡ []
    each [] = refl
    each (i ∷ items) = ap (λ as'. map (λ a. taking (Some r.serial) a i) as' ++ flat_map (λ k. map (λ a. taking (Some r.serial) a k) (asked_address s r.asked)) items) (no_address s r.asked free) ∙ each items

    go : (b : Bool) (items : List Item) → cond b [] (flat_map (λ i. map (λ a. taking (Some r.serial) a i) (asked_address s r.asked)) items) ≡ []
    go true items = refl
    go false items = each items

complete_none : (s : DomainState) (rs : List Request) → NoneAsks rs → flat_map (completed_by s) rs ≡ []
complete_none s [] all = refl
complete_none s (r ∷ rs) all = ap (λ ts. ts ++ flat_map (completed_by s) rs) (completes_none s r all.0) ∙ complete_none s rs all.1

-- ---- a taken item came on some channel

abbrev pub OfChannel : Item → Type 0
OfChannel i = (owner : ℕ) × (number : ℕ) × (is_of_channel owner number i ≡ true)

abbrev pub contents_in : List Taking → List (List ℕ)
contents_in ts = map (λ t. t.item.content) ts

-- what is known of the takings of a deed
pub record Takes (ts : List Taking) (packets : List (List ℕ)) : Type 0 where
  pub contents : contents_in ts ≡ packets
  pub on_channels : AllByRecursion (λ t. OfChannel t.item) ts

takes_nothing : Takes [] []
takes_nothing = record { contents = refl; on_channels = tt }

module _ (s : DomainState) (sound : Sound s) (node port size : ℕ) (bytes : List ℕ) where
  abbrev taken_here : List Taking
  taken_here = at_live (live_at s (local node port)) (λ e. map (taking None e.address) (option_to_list (oldest e.queue)))

  lend_takes : MayDo s (calls node (lend_at port) (gives size bytes)) → mark (port == 2) ≡ [] → Takes (answered_by s (calls node (lend_at port) (gives size bytes))) (cond (port == 2) (bytes ∷ []) [])
  lend_takes may free = go (answered s node (lend_at port) (gives size bytes) may)
    where
      -- the oldest item is the one that is returned
      by_item : (at : AtEnd s (local node port)) (q : List Item) → Bound q (Some at.end) → gives size bytes ≡ lent_whole (oldest q) → Takes (map (taking None at.place.address) (option_to_list (oldest q))) (bytes ∷ [])
      by_item at [] bound is = absurd cc
      by_item at (i ∷ q) bound is = let same : bytes ≡ i.content = cc in record { contents = ap (λ b. b ∷ []) (sym same); on_channels = ((at.end.owner, at.end.number, bound.1.0), tt) }

      at_it : (at : AtEnd s (local node port)) → gives size bytes ≡ success s node (lend_at port) → Takes taken_here (bytes ∷ [])
      at_it at is =
          let queue : queue_at s (local node port) ≡ at.place.queue = ap queue_in (live_found s (local node port) ∙ at.live) in
          subst (λ o. Takes (at_live o (λ e. map (taking None e.address) (option_to_list (oldest e.queue)))) (bytes ∷ [])) (sym at.live)
          (by_item at at.place.queue (subst (Bound at.place.queue) at.has (sound_bound s sound (is_at (local node port)) at.place at.live)) (is ∙ ap (λ q. lent_whole (oldest q)) queue))

      go : Answered s node (lend_at port) (gives size bytes) → Takes taken_here (cond (port == 2) (bytes ∷ []) [])
      go (was_refused w at is) = absurd cc
      go (was_done at is) = subst (λ b. Takes taken_here (cond b (bytes ∷ []) [])) (sym (marked (port == 2) free)) (at_it (lends_at s node port at) is)

one_answered : (s : DomainState) (d : Deed) → Sound s → MayDo s d → strays_in s d ≡ [] → Takes (answered_by s d) (received_in s d)
one_answered s (calls node (lend_at port) (gives size bytes)) sound may free = lend_takes s sound node port size bytes may free
one_answered s (calls node (receive_at port max) (gives size bytes)) sound may free = absurd cc
one_answered s (calls node (scalar_at port bits) (tells value)) sound may free = absurd cc
one_answered s d sound may free = takes_nothing

one_taken : (s : DomainState) (d : Deed) → Sound s → NoneAsks s.requests → MayDo s d → strays_in s d ≡ [] → Takes (takings_by s d) (received_in s d)
one_taken s d sound asks may free =
    let after = (deed_keeps s d may free).asks asks in
    let same : takings_by s d ≡ answered_by s d = ap (λ ts. answered_by s d ++ ts) (complete_none s (after_deed s d).requests after) ∙ append-nil (answered_by s d) in
    subst (λ ts. Takes ts (received_in s d)) (sym same) (one_answered s d sound may free)

both_take : (ts us : List Taking) (ps qs : List (List ℕ)) → Takes ts ps → Takes us qs → Takes (ts ++ us) (ps ++ qs)
both_take ts us ps qs t u = record {
  contents = map-append (λ (k : Taking). k.item.content) ts us ∙ ap₂ (λ (xs ys : List (List ℕ)). xs ++ ys) t.contents u.contents;
  on_channels = all-append (λ k. OfChannel k.item) ts us t.on_channels u.on_channels;
}

pub all_taken : (room : ℕ) (s : DomainState) (ds : List Deed) → Sound s → Serials room s → all_succeed ds ≤ room → NoneAsks s.requests → AllMayDo s ds → along strays_in s ds ≡ [] → Takes (along takings_by s ds) (along received_in s ds)
all_taken room s [] sound serials few asks may free = takes_nothing
all_taken room s (d ∷ ds) sound serials few asks may free =
    let parts = empty_parts (strays_in s d) (along strays_in (after_deed s d) ds) free in
    let next = hearing.deed_keeps 0 0 room s sound serials d may.0 (omega arith) in
    both_take (takings_by s d) (along takings_by (after_deed s d) ds) (received_in s d) (along received_in (after_deed s d) ds)
    (one_taken s d sound asks may.0 parts.0)
    (all_taken (room - succeeds d) (after_deed s d) ds next.sound next.serials (omega arith) ((deed_keeps s d may.0 parts.0).asks asks) may.1 parts.1)
