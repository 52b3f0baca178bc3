-- The states of a domain whose log fits a role: as many channels are given as connects were answered, and no request asks for an item.
use Rattle.std.proofs.Common.{◌≡◌, ℕ, ◌+◌, ◌≤◌, Bool, true, false, cond, List, [], ◌∷◌, ◌++◌, length, length-append, map, Option, Some, None, refl, ap, sym, subst, ◌∙◌, arith}
use Rattle.std.specs.Prelude.{◌==◌, ◌&&◌, is_none}
use Rattle.std.specs.List.{AllByRecursion}
use Rattle.std.proofs.lemmas.Bool.{ne_eqb, eqb-false}
use Rattle.mc_base.specs.Reading.{Reading}
use Rattle.mc_base.specs.declared.name.EndName.{EndName}
use Rattle.mc_base.specs.declared.channel.Kind.{Kind}
use Rattle.mc_base.specs.declared.channel.Side.{Side}
use Rattle.mc_base.specs.declared.channel.Side.TheVariants.{Sender, Receiver}
use Rattle.mc_base.specs.declared.refusal.Refusal.{Refusal}
use Rattle.board_model.specs.Answer.{first_complete, local, holds, words_of, refusal, success, unless_refused}
use Rattle.board_model.specs.CallChanges.{at_live, at_channel, at_end, closing, lending, lent_by, lent_by_test, success_changes, new_sender}
use Rattle.board_model.specs.Change.{Change, channel_set, request_added, item_handed, waiting_ended, name_found, connect_settled, request_gone, buffers_used, channel_given, done_with, all_done, asks_for, connects_on, handed_in, ended_in, requests_after, changed, changed_all, channels_given_after}
use Rattle.board_model.specs.Channels.{named_by}
use Rattle.board_model.specs.Choice.{oldest}
use Rattle.board_model.specs.Deeds.{Deed, looks_back, puts_owed, looks_ahead, takes, calls, happens_by, after_deed, MayDo, AllMayDo, along}
use Rattle.board_model.specs.DomainCall.{DomainCall, create_at, lookup_of, receive_at, connect_from, open_at, packet_from, lend_at, release_of, scalar_at, close_at, wait_for}
use Rattle.board_model.specs.Journal.{PlainAnswer, connects, refuses}
use Rattle.board_model.specs.Lists.{changed_first}
use Rattle.board_model.specs.Parts.{Came, came_from, said_from}
use Rattle.board_model.specs.State.{Item, ChannelEnd, Endpoint, Asked, message_at, packet_at, Outcome, has_address, has_item, has_ended, Request, DomainState, live_at, endpoint_of, request_at_place, waits_at}
use Rattle.board_model.specs.TakenFrames.{Row, row_from}
use Rattle.board_model.proofs.LaneRows.{Deals, stays, strays, awaits, learns, forgets, hands, queues, loses, rejects, accepts, acts, acting-all, row-deals}
use Rattle.board_model.proofs.ListsOne.{empty_parts}
use Rattle.board_model.proofs.MessageAlls.{all-append, all-parts, none-passes}
use Rattle.board_model.proofs.OrderSerials.{all_without, all_last}
use Rattle.board_model.proofs.StateEnds.{there_is}
use Rattle.hop_relay.proofs.RoleLines.{mark, unless_refusal}
use Rattle.hop_relay.proofs.RelayDeeds.{is_of_relay, strays_in, connects_in, Answered, was_refused, was_done, answered}

-- ---- requests that ask for no item

abbrev pub AsksNoItem : Asked → Type 0
AsksNoItem (message_at at max) = ⊥
AsksNoItem (packet_at at) = ⊥
AsksNoItem other = Unit {0}

abbrev pub NoneAsks : List Request → Type 0
NoneAsks rs = AllByRecursion (λ r. AsksNoItem r.asked) rs

mapped_asks : (f : Request → Request) → ((r : Request) → AsksNoItem r.asked → AsksNoItem (f r).asked) → (rs : List Request) → NoneAsks rs → NoneAsks (map f rs)
mapped_asks f each [] all = tt
mapped_asks f each (r ∷ rs) all = (each r all.0, mapped_asks f each rs all.1)

first_asks : (p : Request → Bool) (o : Outcome) (rs : List Request) → NoneAsks rs → NoneAsks (changed_first p (done_with o) rs)
first_asks p o [] all = tt
first_asks p o (r ∷ rs) all = go (p r) (first_asks p o rs all.1)
  where
    go : (b : Bool) → NoneAsks (changed_first p (done_with o) rs) → NoneAsks (cond b (done_with o r ∷ rs) (r ∷ changed_first p (done_with o) rs))
    go true more = (all.0, all.1)
    go false more = (all.0, more)

done_asks : (b : Bool) (o : Outcome) (r : Request) → AsksNoItem r.asked → AsksNoItem (cond b (done_with o r) r).asked
done_asks true o r free = free
done_asks false o r free = free

handed_asks : (e : Option Endpoint) (i : Item) (rs : List Request) → NoneAsks rs → NoneAsks (handed_in e i rs)
handed_asks None i rs all = all
handed_asks (Some e) i rs all = first_asks (waits_at e.local) (has_item i) rs all

ended_asks : (e : Option Endpoint) (w : Refusal) (rs : List Request) → NoneAsks rs → NoneAsks (ended_in e w rs)
ended_asks None w rs all = all
ended_asks (Some e) w rs all = mapped_asks (λ r. cond (waits_at e.local r) (done_with (has_ended w) r) r) (λ r free. done_asks (waits_at e.local r) (has_ended w) r free) rs all

-- ---- changes that give no channel, and no request for an item

abbrev pub IsPlain : Change → Type 0
IsPlain (request_added asked o) = AsksNoItem asked
IsPlain channel_given = ⊥
IsPlain other = Unit {0}

plain_given : (c : Change) (n : ℕ) → IsPlain c → channels_given_after c n ≡ n
plain_given channel_given n plain = absurd plain
plain_given c n plain = refl

plain_asks : (c : Change) (s : DomainState) → IsPlain c → NoneAsks s.requests → NoneAsks (requests_after c s)
plain_asks (request_added asked o) s plain all = all_last (λ r. AsksNoItem r.asked) s.requests _ all plain
plain_asks (item_handed a i) s plain all = handed_asks (endpoint_of s a) i s.requests all
plain_asks (waiting_ended a w) s plain all = ended_asks (endpoint_of s a) w s.requests all
plain_asks (name_found n a) s plain all = mapped_asks (all_done (asks_for n) (has_address a)) (λ r free. done_asks (is_none r.outcome && asks_for n r.asked) (has_address a) r free) s.requests all
plain_asks (connect_settled n o) s plain all = mapped_asks (all_done (connects_on n) o) (λ r free. done_asks (is_none r.outcome && connects_on n r.asked) o r free) s.requests all
plain_asks (request_gone place) s plain all = all_without (λ r. AsksNoItem r.asked) place s.requests all
plain_asks other s plain all = all

-- what a deed leaves of both, where it gives so many channels
pub record Keeps (s t : DomainState) (more : ℕ) : Type 0 where
  pub given : t.channels_given ≡ s.channels_given + more
  pub asks : NoneAsks s.requests → NoneAsks t.requests

all_plain : (s : DomainState) (cs : List Change) → AllByRecursion IsPlain cs → Keeps s (changed_all s cs) 0
all_plain s [] plain = record { given = omega arith; asks = λ all. all }
all_plain s (c ∷ cs) plain =
    let rest = all_plain (changed s c) cs plain.1 in
    record { given = omega (arith, rest.given, plain_given c s.channels_given plain.0); asks = λ all. rest.asks (plain_asks c s plain.0 all) }

-- ---- frames that are taken

row_plain : (s : DomainState) (peer : ℕ) (name : Came) (rd : Reading) (r : Row) → Deals s peer name rd r → AllByRecursion IsPlain r.happens
row_plain s peer name rd r (stays is gives) = subst (AllByRecursion IsPlain) (sym is) tt
row_plain s peer name rd r (strays source at q says none is word) = subst (AllByRecursion IsPlain) (sym is) tt
row_plain s peer name rd r (awaits source at q says some is word) = subst (AllByRecursion IsPlain) (sym is) tt
row_plain s peer name rd r (learns text n a names says named is gives) = subst (AllByRecursion IsPlain) (sym is) (tt, (tt, tt))
row_plain s peer name rd r (forgets text n a names says named is gives) = subst (AllByRecursion IsPlain) (sym is) (tt, tt)
row_plain s peer name rd r (hands source at l e says found carried waits is word) = subst (AllByRecursion IsPlain) (sym is) (tt, tt)
row_plain s peer name rd r (queues source at l e says found carried none is word) = subst (AllByRecursion IsPlain) (sym is) (tt, tt)
row_plain s peer name rd r (loses source at l e says found late is word) = subst (AllByRecursion IsPlain) (sym is) (tt, tt)
row_plain s peer name rd r (rejects source at number kind why says is gives) = subst (AllByRecursion IsPlain) (sym is) (tt, tt)
row_plain s peer name rd r (accepts source at number kind e says found none free is gives) = subst (AllByRecursion IsPlain) (sym is) (tt, (tt, tt))
row_plain s peer name rd r (acts source at l e c left says found has row is gives) = subst (AllByRecursion IsPlain) (sym is) (acting-all IsPlain at left tt (λ n. tt) (λ n why. tt) tt l)

-- ---- calls

live_plain : (o : Option Endpoint) (f : Endpoint → List Change) → ((e : Endpoint) → AllByRecursion IsPlain (f e)) → AllByRecursion IsPlain (at_live o f)
live_plain None f each = tt
live_plain (Some e) f each = each e

end_plain : (o : Option Endpoint) (f : Endpoint → ChannelEnd → List Change) → ((e : Endpoint) (c : ChannelEnd) → AllByRecursion IsPlain (f e c)) → AllByRecursion IsPlain (at_end o f)
end_plain None f each = tt
end_plain (Some e) f each = go e.channel
  where
    go : (x : Option ChannelEnd) → AllByRecursion IsPlain (at_channel x (f e))
    go None = tt
    go (Some c) = each e c

lending_plain : (o : Option Item) → AllByRecursion IsPlain (lending o)
lending_plain None = tt
lending_plain (Some i) = (tt, tt)

lent_plain : (asked : Asked) (o : Option Outcome) → AllByRecursion IsPlain (lent_by asked o)
lent_plain (packet_at at) (Some (has_item i)) = (tt, tt)
lent_plain asked o = tt

tested_plain : (o : Option Request) → AllByRecursion IsPlain (lent_by_test o)
tested_plain None = tt
tested_plain (Some r) = lent_plain r.asked r.outcome

closing_plain : (side : Side) (e : Endpoint) (c : ChannelEnd) → AllByRecursion IsPlain (closing side e c)
closing_plain Sender e c = (tt, (tt, tt))
closing_plain Receiver e c = (tt, (tt, (tt, tt)))

module _ (s : DomainState) (node : ℕ) where
  -- a connect, which finds its endpoint
  connect_keeps : (port : ℕ) (to : EndName) (kind : Kind) → refusal s node (connect_from port to kind) ≡ None → Keeps s (changed_all s (success_changes s node (connect_from port to kind))) 1
  connect_keeps port to kind none =
      let there = there_is s (local node port) (none-passes (holds s node (connect_from port to kind)) (words_of (connect_from port to kind)) none).0 in
      subst (λ o. Keeps s (changed_all s (at_live o connecting)) 1) (sym there.1)
      (record { given = refl; asks = λ all. all_last (λ r. AsksNoItem r.asked) s.requests _ all tt })
    where
      connecting : Endpoint → List Change
      connecting e = buffers_used to.domain 1 ∷ channel_set e.address (Some (new_sender s to kind)) ∷ request_added (Asked.channel_of (s.channels_given + 1)) None ∷ channel_given ∷ []

  abbrev Done : DomainCall → Type 0
  Done call = Keeps s (changed_all s (success_changes s node call)) (length (connects_in s (calls node call (success s node call))))

  abbrev stray : DomainCall → List ℕ
  stray call = unless_refusal (success s node call) (mark (is_of_relay call))

  done_keeps : (call : DomainCall) → refusal s node call ≡ None → stray call ≡ [] → Done call
  done_keeps (create_at port) none free = all_plain s (success_changes s node (create_at port)) (tt, (tt, (tt, tt)))
  done_keeps (lookup_of name) none free = all_plain s (success_changes s node (lookup_of name)) (tt, tt)
  done_keeps (connect_from port to kind) none free = connect_keeps port to kind none
  done_keeps (open_at port side kind) none free = all_plain s (success_changes s node (open_at port side kind)) (end_plain (live_at s (local node port)) _ (λ e c. (tt, (tt, tt))))
  done_keeps (packet_from port bytes) none free = all_plain s (success_changes s node (packet_from port bytes)) (end_plain (live_at s (local node port)) _ (λ e c. (tt, tt)))
  done_keeps (lend_at port) none free = all_plain s (success_changes s node (lend_at port)) (live_plain (live_at s (local node port)) _ (λ e. (tt, lending_plain (oldest e.queue))))
  done_keeps (release_of place) none free = all_plain s (success_changes s node (release_of place)) (tt, tt)
  done_keeps (close_at port side) none free = all_plain s (success_changes s node (close_at port side)) (end_plain (live_at s (local node port)) (closing side) (closing_plain side))
  done_keeps (wait_for requests says_place) none free = all_plain s (success_changes s node (wait_for requests says_place)) (tt, tested_plain (request_at_place s (first_complete s requests)))
  done_keeps (receive_at port max) none free = all_plain s (success_changes s node (receive_at port max)) (live_plain (live_at s (local node port)) _ (λ e. (tt, tt)))
  done_keeps (scalar_at port bits) none free = all_plain s (success_changes s node (scalar_at port bits)) (live_plain (live_at s (local node port)) _ (λ e. (tt, tt)))
  done_keeps other none free = absurd cc

  refused_connects : (call : DomainCall) (w : Refusal) → connects_in s (calls node call (refuses w)) ≡ []
  refused_connects (connect_from port to kind) w = refl
  refused_connects other w = refl

  call_keeps : (call : DomainCall) (a : PlainAnswer) → MayDo s (calls node call a) → strays_in s (calls node call a) ≡ [] → Keeps s (after_deed s (calls node call a)) (length (connects_in s (calls node call a)))
  call_keeps call a may free = go (answered s node call a may)
    where
      go : Answered s node call a → Keeps s (after_deed s (calls node call a)) (length (connects_in s (calls node call a)))
      go (was_refused w at is) =
          subst (λ n. Keeps s (after_deed s (calls node call a)) n) (ap length (sym (ap (λ b. connects_in s (calls node call b)) is ∙ refused_connects call w)))
          (subst (λ o. Keeps s (changed_all s (unless_refused o [] (success_changes s node call))) 0) (sym at) (all_plain s [] tt))
      go (was_done at is) =
          subst (λ b. Keeps s (after_deed s (calls node call a)) (length (connects_in s (calls node call b)))) (sym is)
          (subst (λ o. Keeps s (changed_all s (unless_refused o [] (success_changes s node call))) (length (connects_in s (calls node call (success s node call))))) (sym at)
          (done_keeps call at (sym (ap (λ b. unless_refusal b (mark (is_of_relay call))) is) ∙ free)))

pub deed_keeps : (s : DomainState) (d : Deed) → MayDo s d → strays_in s d ≡ [] → Keeps s (after_deed s d) (length (connects_in s d))
deed_keeps s (looks_back p n) may free = all_plain s (happens_by s (looks_back p n)) (tt, tt)
deed_keeps s (puts_owed p f) may free = all_plain s (happens_by s (puts_owed p f)) (tt, tt)
deed_keeps s (looks_ahead p n) may free = all_plain s (happens_by s (looks_ahead p n)) (tt, tt)
deed_keeps s (takes p name frame word) may free = all_plain s (happens_by s (takes p name frame word)) (tt, row_plain s p (came_from s p name frame) (said_from s p frame) (row_from s p name frame) (row-deals s p (came_from s p name frame) (said_from s p frame)))
deed_keeps s (calls node call a) may free = call_keeps s node call a may free

-- ---- so the one connect numbers its channel 1

-- the channel that a connect numbers is the next
numbered : (s : DomainState) (node port : ℕ) (to : EndName) (kind : Kind) (request channel : ℕ) → MayDo s (calls node (connect_from port to kind) (connects request channel)) → channel ≡ s.channels_given + 1
numbered s node port to kind request channel may = go (answered s node (connect_from port to kind) (connects request channel) may)
  where
    go : Answered s node (connect_from port to kind) (connects request channel) → channel ≡ s.channels_given + 1
    go (was_refused w at is) = absurd cc
    go (was_done at is) = cc

module _ (m : ℕ) (other : (m == 1) ≡ false) where
  one_unnamed : (s : DomainState) (d : Deed) → MayDo s d → length (connects_in s d) + s.channels_given ≤ 1 → named_by m s d ≡ []
  one_unnamed s (calls node (connect_from port to kind) (connects request channel)) may few =
      let next = numbered s node port to kind request channel may in
      ap (λ b. cond b (to.domain ∷ []) []) (ne_eqb channel m (λ same. absurd (eqb-false m 1 other (omega (arith, same, next)))))
  one_unnamed s d may few = refl

  pub none_named : (s : DomainState) (ds : List Deed) → AllMayDo s ds → along strays_in s ds ≡ [] → length (along connects_in s ds) + s.channels_given ≤ 1 → along (named_by m) s ds ≡ []
  none_named s [] may free few = refl
  none_named s (d ∷ ds) may free few =
      let parts = empty_parts (strays_in s d) (along strays_in (after_deed s d) ds) free in
      let keeps = deed_keeps s d may.0 parts.0 in
      let both = length-append (connects_in s d) (along connects_in (after_deed s d) ds) in
      ap (λ xs. xs ++ along (named_by m) (after_deed s d) ds) (one_unnamed s d may.0 (omega arith))
      ∙ none_named (after_deed s d) ds may.1 parts.1 (omega (arith, keeps.given))

-- a domain that is named is one that a connect names
module _ (P : ℕ → Type 0) (m : ℕ) where
  one_named : (s : DomainState) (d : Deed) → AllByRecursion P (connects_in s d) → AllByRecursion P (named_by m s d)
  one_named s (calls node (connect_from port to kind) (connects request channel)) all = go (channel == m)
    where
      go : (b : Bool) → AllByRecursion P (cond b (to.domain ∷ []) [])
      go true = all
      go false = tt
  one_named s d all = tt

  pub all_named : (s : DomainState) (ds : List Deed) → AllByRecursion P (along connects_in s ds) → AllByRecursion P (along (named_by m) s ds)
  all_named s [] all = tt
  all_named s (d ∷ ds) all =
      let parts = all-parts P (connects_in s d) (along connects_in (after_deed s d) ds) all in
      all-append P (named_by m s d) (along (named_by m) (after_deed s d) ds) (one_named s d parts.0) (all_named (after_deed s d) ds parts.1)
