-- What holds of a domain's numbers and contents in each state of a run, and that each change keeps it: addresses are of four bytes, contents
-- are bytes, of which there are few, and serials are of eight bytes.
use Rattle.std.proofs.Common.{ℕ, ◌+◌, ◌-◌, ◌^◌, ◌<◌, Bool, not, ◌&&◌, cond, List, [], ◌∷◌, ◌++◌, map, drop, length, Option, Some, None, arith}
use Rattle.std.specs.Prelude.{is_none, ◌==◌}
use Rattle.std.specs.List.{AllByRecursion}
use Rattle.std.proofs.lemmas.Bool.{cond_both}
use Rattle.mc_base.specs.Limits.{first_address}
use Rattle.mc_base.specs.NameMap.{Names}
use Rattle.mc_base.specs.declared.refusal.Refusal.{Refusal}
use Rattle.board_model.specs.Lists.{changed_first}
use Rattle.board_model.specs.Choice.{best_place, without_best}
use Rattle.board_model.specs.State.{Item, Endpoint, Outcome, has_address, has_item, has_ended, Request, Announcement, Peer, DomainState, has_address_of, endpoint_of, waits_at, is_numbered}
use Rattle.board_model.specs.Change.{Change, endpoint_made, endpoint_gone, item_queued, best_gone, oldest_gone, item_lost, channel_set, queue_dropped, request_added, item_handed, waiting_ended, name_found, connect_settled, request_gone, end_announced, reply_owed, owed_put, buffers_back, frames_shown, frame_taken, names_known, buffers_used, packet_lent, packet_gone, channel_given, asks_for, connects_on, done_with, handed_in, ended_in, with_queue, with_channel, without_queue, endpoint_with, also_owed, first_put, changed, changed_all}
use Rattle.board_model.proofs.MessageAlls.{all-drop, all-append, all-filter, all-changed-first, all-without}
use Rattle.report_laws.proofs.ReadingsFit.{FitsContent, FitsPart}

abbrev pub FitsItem : Item → Type 0
FitsItem i = FitsContent i.content

abbrev pub FitsOutcome : Option Outcome → Type 0
FitsOutcome (Some (has_address a)) = a < 2 ^ 32
FitsOutcome (Some (has_item i)) = FitsItem i
FitsOutcome other = Unit {0}

pub record FitsEnd (e : Endpoint) : Type 0 where
  pub address : e.address < 2 ^ 32
  pub queue : AllByRecursion FitsItem e.queue

abbrev pub FitsRequest : Request → Type 0
FitsRequest r = FitsOutcome r.outcome

abbrev pub FitNames : Names → Type 0
FitNames names = AllByRecursion (λ k. k.1 < 2 ^ 32) names

pub record FitsPeer (p : Peer) : Type 0 where
  pub known : FitNames p.known
  pub part : FitsPart p.part

pub record Fits (s : DomainState) : Type 0 where
  pub ends : AllByRecursion FitsEnd s.endpoints
  pub requests : AllByRecursion FitsRequest s.requests
  pub peers : AllByRecursion FitsPeer s.peers
  pub serials : s.requests_given < 2 ^ 64

-- what a change brings fits
abbrev pub FitsChange : DomainState → Change → Type 0
FitsChange s (endpoint_made at) = first_address + s.endpoints_given < 2 ^ 32
FitsChange s (item_queued a i) = FitsItem i
FitsChange s (item_handed a i) = FitsItem i
FitsChange s (request_added asked o) = FitsOutcome o
FitsChange s (name_found n a) = a < 2 ^ 32
FitsChange s (connect_settled n o) = FitsOutcome (Some o)
FitsChange s (names_known n names) = FitNames names
FitsChange s (frame_taken n part names) = FitsPart part
FitsChange s other = Unit {0}

-- ---- requests

handed-fits : (o : Option Endpoint) (i : Item) (rs : List Request) → FitsItem i → AllByRecursion FitsRequest rs → AllByRecursion FitsRequest (handed_in o i rs)
handed-fits None i rs one all = all
handed-fits (Some e) i rs one all = all-changed-first FitsRequest (waits_at e.local) (done_with (has_item i)) rs all (λ r found before. one)

-- those that pass are complete
passed-fit : (test : Request → Bool) (o : Outcome) (rs : List Request) → FitsOutcome (Some o) → AllByRecursion FitsRequest rs → AllByRecursion FitsRequest (map (λ r. cond (test r) (done_with o r) r) rs)
passed-fit test o [] one all = tt
passed-fit test o (r ∷ rs) one all = (cond_both (test r) (done_with o r) r FitsRequest (λ on. one) (λ off. all.0), passed-fit test o rs one all.1)

ended-fits : (o : Option Endpoint) (word : Refusal) (rs : List Request) → AllByRecursion FitsRequest rs → AllByRecursion FitsRequest (ended_in o word rs)
ended-fits None word rs all = all
ended-fits (Some e) word rs all = passed-fit (waits_at e.local) (has_ended word) rs tt all

-- ---- peers

also-fits : (d : ℕ) (a : Announcement) (ps : List Peer) → AllByRecursion FitsPeer ps → AllByRecursion FitsPeer (map (also_owed d a) ps)
also-fits d a [] all = tt
also-fits d a (p ∷ ps) all =
    (cond_both (p.number == d) p (record p { announcements = p.announcements ++ a ∷ [] }) FitsPeer (λ e. all.0) (λ e. record { known = all.0.known; part = all.0.part }), also-fits d a ps all.1)

put-fits : (p : Peer) → FitsPeer p → FitsPeer (first_put p)
put-fits p fits = cond_both (length p.announcements == 0) (record p { free = p.free - 1; replies = drop 1 p.replies }) (record p { free = p.free - 1; announcements = drop 1 p.announcements }) FitsPeer (λ e. record { known = fits.known; part = fits.part }) (λ e. record { known = fits.known; part = fits.part })

-- ---- a change

module _ (s : DomainState) (h : Fits s) where
  -- the endpoint of an address changes
  end-fits : (a : ℕ) (f : Endpoint → Endpoint) → ((e : Endpoint) → FitsEnd e → FitsEnd (f e)) → AllByRecursion FitsEnd (changed_first (has_address_of a) f s.endpoints)
  end-fits a f keeps = all-changed-first FitsEnd (has_address_of a) f s.endpoints h.ends (λ e found before. keeps e before)

  -- a peer of a number changes, with its open part and the names that are known of it
  peer-fits : (n : ℕ) (f : Peer → Peer) → ((p : Peer) → FitsPeer p → FitsPeer (f p)) → AllByRecursion FitsPeer (changed_first (is_numbered n) f s.peers)
  peer-fits n f keeps = all-changed-first FitsPeer (is_numbered n) f s.peers h.peers (λ p found before. keeps p before)

  pub fits-changed : (c : Change) → FitsChange s c → Fits (changed s c)
  fits-changed (endpoint_made at) one = record { ends = all-append FitsEnd s.endpoints (endpoint_with s at ∷ []) h.ends (record { address = one; queue = tt }, tt); requests = h.requests; peers = h.peers; serials = h.serials }
  fits-changed (endpoint_gone a) one = record { ends = all-filter FitsEnd (λ e. not (has_address_of a e)) s.endpoints h.ends; requests = h.requests; peers = h.peers; serials = h.serials }
  fits-changed (item_queued a i) one = record {
    ends = end-fits a (with_queue (λ q. q ++ i ∷ [])) (λ e before. record { address = before.address; queue = all-append FitsItem e.queue (i ∷ []) before.queue (one, tt) });
    requests = h.requests;
    peers = h.peers;
    serials = h.serials;
  }
  fits-changed (best_gone a) one = record {
    ends = end-fits a (with_queue (without_best (λ i. i.priority))) (λ e before. record { address = before.address; queue = all-without FitsItem (best_place (λ i. i.priority) e.queue) e.queue before.queue });
    requests = h.requests;
    peers = h.peers;
    serials = h.serials;
  }
  fits-changed (oldest_gone a) one = record {
    ends = end-fits a (with_queue (drop 1)) (λ e before. record { address = before.address; queue = all-drop FitsItem 1 e.queue before.queue });
    requests = h.requests;
    peers = h.peers;
    serials = h.serials;
  }
  fits-changed (item_lost a i) one = record { ends = h.ends; requests = h.requests; peers = h.peers; serials = h.serials }
  fits-changed (channel_set a c) one = record { ends = end-fits a (with_channel c) (λ e before. record { address = before.address; queue = before.queue }); requests = h.requests; peers = h.peers; serials = h.serials }
  fits-changed (queue_dropped a c) one = record { ends = end-fits a (without_queue c) (λ e before. record { address = before.address; queue = tt }); requests = h.requests; peers = h.peers; serials = h.serials }
  fits-changed (request_added asked o) one = record { ends = h.ends; requests = all-append FitsRequest s.requests (record { serial = s.requests_given; asked = asked; outcome = o } ∷ []) h.requests (one, tt); peers = h.peers; serials = omega arith }
  fits-changed (item_handed a i) one = record { ends = h.ends; requests = handed-fits (endpoint_of s a) i s.requests one h.requests; peers = h.peers; serials = h.serials }
  fits-changed (waiting_ended a word) one = record { ends = h.ends; requests = ended-fits (endpoint_of s a) word s.requests h.requests; peers = h.peers; serials = h.serials }
  fits-changed (name_found n a) one = record { ends = h.ends; requests = passed-fit (λ r. is_none r.outcome && asks_for n r.asked) (has_address a) s.requests one h.requests; peers = h.peers; serials = h.serials }
  fits-changed (connect_settled n o) one = record { ends = h.ends; requests = passed-fit (λ r. is_none r.outcome && connects_on n r.asked) o s.requests one h.requests; peers = h.peers; serials = h.serials }
  fits-changed (request_gone place) one = record { ends = h.ends; requests = all-without FitsRequest place s.requests h.requests; peers = h.peers; serials = h.serials }
  fits-changed (end_announced a) one = record { ends = h.ends; requests = h.requests; peers = also-fits s.number a s.peers h.peers; serials = h.serials }
  fits-changed (reply_owed n r) one = record { ends = h.ends; requests = h.requests; peers = peer-fits n (λ p. record p { replies = p.replies ++ r ∷ [] }) (λ p before. record { known = before.known; part = before.part }); serials = h.serials }
  fits-changed (owed_put n) one = record { ends = h.ends; requests = h.requests; peers = peer-fits n first_put put-fits; serials = h.serials }
  fits-changed (buffers_back n count) one = record { ends = h.ends; requests = h.requests; peers = peer-fits n (λ p. record p { free = p.free + count }) (λ p before. record { known = before.known; part = before.part }); serials = h.serials }
  fits-changed (frames_shown n count) one = record { ends = h.ends; requests = h.requests; peers = peer-fits n (λ p. record p { shown = count }) (λ p before. record { known = before.known; part = before.part }); serials = h.serials }
  fits-changed (frame_taken n part names) one = record { ends = h.ends; requests = h.requests; peers = peer-fits n (λ p. record p { shown = p.shown - 1; part = part }) (λ p before. record { known = before.known; part = one }); serials = h.serials }
  fits-changed (names_known n names) one = record { ends = h.ends; requests = h.requests; peers = peer-fits n (λ p. record p { known = names }) (λ p before. record { known = one; part = before.part }); serials = h.serials }
  fits-changed (buffers_used n count) one = record { ends = h.ends; requests = h.requests; peers = peer-fits n (λ p. record p { free = p.free - count }) (λ p before. record { known = before.known; part = before.part }); serials = h.serials }
  fits-changed (packet_lent i) one = record { ends = h.ends; requests = h.requests; peers = h.peers; serials = h.serials }
  fits-changed (packet_gone place) one = record { ends = h.ends; requests = h.requests; peers = h.peers; serials = h.serials }
  fits-changed channel_given one = record { ends = h.ends; requests = h.requests; peers = h.peers; serials = h.serials }

-- ---- changes one after the other

abbrev pub FitChanges : DomainState → List Change → Type 0
FitChanges s [] = Unit {0}
FitChanges s (c ∷ cs) = FitsChange s c × FitChanges (changed s c) cs

pub fits-changes : (s : DomainState) (cs : List Change) → FitChanges s cs → Fits s → Fits (changed_all s cs)
fits-changes s [] all h = h
fits-changes s (c ∷ cs) all h = fits-changes (changed s c) cs all.1 (fits-changed s h c all.0)
