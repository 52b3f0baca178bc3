-- A state whose frames have other names: what is looked up in it, and how it changes.
use Rattle.std.proofs.Common.{◌≡◌, ℕ, Bool, true, false, not, ◌&&◌, cond, List, [], ◌∷◌, ◌++◌, map, drop, Option, Some, None, refl, sym, ap, ◌∙◌, ap₂, filter}
use Rattle.std.specs.Prelude.{option_map, is_none}
use Rattle.std.proofs.lemmas.List.{map-append}
use Rattle.std.proofs.lemmas.Simd.{map-map}
use Rattle.mc_base.specs.declared.name.Local.{Local}
use Rattle.mc_base.specs.declared.refusal.Refusal.{Refusal}
use Rattle.board_model.specs.State.{Item, Endpoint, Asked, Outcome, has_address, has_item, has_ended, Request, DomainState, is_at, has_address_of, live_at, endpoint_of, place_at, receives_at, waits_at, one_waits, holds_from}
use Rattle.board_model.specs.Renamed.{renamed, renamed_end, renamed_item, renamed_outcome, renamed_packet, renamed_request, renamed_held}
use Rattle.board_model.specs.Choice.{without_best}
use Rattle.board_model.specs.Change.{Change, endpoint_made, endpoint_gone, item_queued, best_gone, oldest_gone, item_lost, channel_set, queue_dropped, request_added, item_handed, waiting_ended, name_found, connect_settled, request_gone, end_announced, reply_owed, owed_put, buffers_back, frames_shown, frame_taken, names_known, buffers_used, packet_lent, packet_gone, channel_given, endpoint_with, with_queue, with_channel, without_queue, asks_for, connects_on, done_with, all_done, handed_in, ended_in, changed, changed_all, held_as}
use Rattle.board_model.proofs.ListsMapped.{is_none-map, find-mapped, position-mapped, filter-mapped, any-mapped, changed_first-mapped, without-mapped, map-alike, without_best-mapped}

module _ (names : ℕ → ℕ → ℕ) where
  -- ---- what is looked up

  pub live-renamed : (s : DomainState) (at : Local) → live_at (renamed names s) at ≡ option_map (renamed_end names) (live_at s at)
  live-renamed s at = find-mapped (renamed_end names) (is_at at) (is_at at) (λ e. refl) s.endpoints

  pub endpoint-renamed : (s : DomainState) (a : ℕ) → endpoint_of (renamed names s) a ≡ option_map (renamed_end names) (endpoint_of s a)
  endpoint-renamed s a = find-mapped (renamed_end names) (has_address_of a) (has_address_of a) (λ e. refl) s.endpoints

  pub place-renamed : (s : DomainState) (at : Local) → place_at (renamed names s) at ≡ place_at s at
  place-renamed s at = position-mapped (renamed_end names) (is_at at) (is_at at) (λ e. refl) s.endpoints

  waits_renamed : (at : Local) (r : Request) → waits_at at (renamed_request names r) ≡ waits_at at r
  waits_renamed at r = ap (λ b. b && receives_at at r.asked) (is_none-map (renamed_outcome names) r.outcome)

  pub one_waits-renamed : (s : DomainState) (at : Local) → one_waits (renamed names s) at ≡ one_waits s at
  one_waits-renamed s at = any-mapped (renamed_request names) (waits_at at) (waits_at at) (waits_renamed at) s.requests

  -- ---- a change, by its new names

  abbrev pub renamed_change : Change → Change
  renamed_change (item_queued a i) = item_queued a (renamed_item names i)
  renamed_change (request_added asked o) = request_added asked (option_map (renamed_outcome names) o)
  renamed_change (item_handed a i) = item_handed a (renamed_item names i)
  renamed_change (connect_settled n o) = connect_settled n (renamed_outcome names o)
  renamed_change (item_lost a i) = item_lost a (renamed_item names i)
  renamed_change (packet_lent i) = packet_lent (renamed_item names i)
  renamed_change (frame_taken n part held) = frame_taken n part (map (names n) held)
  renamed_change other = other

  -- ---- endpoints

  queue_more : (i : Item) (e : Endpoint) → with_queue (λ q. q ++ renamed_item names i ∷ []) (renamed_end names e) ≡ renamed_end names (with_queue (λ q. q ++ i ∷ []) e)
  queue_more i e = ap (λ q. record e { queue = q }) (sym (map-append (renamed_item names) e.queue (i ∷ [])))

  queue_less : (e : Endpoint) → with_queue (without_best (λ i. i.priority)) (renamed_end names e) ≡ renamed_end names (with_queue (without_best (λ i. i.priority)) e)
  queue_less e = ap (λ q. record e { queue = q }) (without_best-mapped (renamed_item names) (λ i. i.priority) (λ i. refl) e.queue)

  rest_renamed : (q : List Item) → drop 1 (map (renamed_item names) q) ≡ map (renamed_item names) (drop 1 q)
  rest_renamed [] = refl
  rest_renamed (i ∷ q) = refl

  queue_rest : (e : Endpoint) → with_queue (drop 1) (renamed_end names e) ≡ renamed_end names (with_queue (drop 1) e)
  queue_rest e = ap (λ q. record e { queue = q }) (rest_renamed e.queue)

  -- ---- requests

  choose_request : (b : Bool) (x y : Request) → renamed_request names (cond b x y) ≡ cond b (renamed_request names x) (renamed_request names y)
  choose_request true x y = refl
  choose_request false x y = refl

  handed : (o : Option Endpoint) (i : Item) (rs : List Request) → map (renamed_request names) (handed_in o i rs) ≡ handed_in (option_map (renamed_end names) o) (renamed_item names i) (map (renamed_request names) rs)
  handed None i rs = refl
  handed (Some e) i rs = sym (changed_first-mapped (renamed_request names) (waits_at e.local) (waits_at e.local) (waits_renamed e.local) (done_with (has_item (renamed_item names i))) (done_with (has_item i)) (λ r. refl) rs)

  ended_one : (at : Local) (word : Refusal) (r : Request) → renamed_request names (cond (waits_at at r) (done_with (has_ended word) r) r) ≡ cond (waits_at at (renamed_request names r)) (done_with (has_ended word) (renamed_request names r)) (renamed_request names r)
  ended_one at word r =
      choose_request (waits_at at r) (done_with (has_ended word) r) r
      ∙ ap (λ b. cond b (done_with (has_ended word) (renamed_request names r)) (renamed_request names r)) (sym (waits_renamed at r))

  ended : (o : Option Endpoint) (word : Refusal) (rs : List Request) → map (renamed_request names) (ended_in o word rs) ≡ ended_in (option_map (renamed_end names) o) word (map (renamed_request names) rs)
  ended None word rs = refl
  ended (Some e) word rs =
      map-map (renamed_request names) (λ r. cond (waits_at e.local r) (done_with (has_ended word) r) r) rs
      ∙ (map-alike (λ r. renamed_request names (cond (waits_at e.local r) (done_with (has_ended word) r) r)) (λ r. cond (waits_at e.local (renamed_request names r)) (done_with (has_ended word) (renamed_request names r)) (renamed_request names r)) (ended_one e.local word) rs
      ∙ sym (map-map (λ r. cond (waits_at e.local r) (done_with (has_ended word) r) r) (renamed_request names) rs))

  done_one : (asks : Asked → Bool) (o : Outcome) (r : Request) → renamed_request names (all_done asks o r) ≡ all_done asks (renamed_outcome names o) (renamed_request names r)
  done_one asks o r =
      choose_request (is_none r.outcome && asks r.asked) (done_with o r) r
      ∙ ap (λ b. cond (b && asks r.asked) (done_with (renamed_outcome names o) (renamed_request names r)) (renamed_request names r)) (sym (is_none-map (renamed_outcome names) r.outcome))

  done : (asks : Asked → Bool) (o : Outcome) (rs : List Request) → map (renamed_request names) (map (all_done asks o) rs) ≡ map (all_done asks (renamed_outcome names o)) (map (renamed_request names) rs)
  done asks o rs =
      map-map (renamed_request names) (all_done asks o) rs
      ∙ (map-alike (λ r. renamed_request names (all_done asks o r)) (λ r. all_done asks (renamed_outcome names o) (renamed_request names r)) (done_one asks o) rs
      ∙ sym (map-map (all_done asks (renamed_outcome names o)) (renamed_request names) rs))

  same_held : (n : ℕ) (held : List ℕ) → map (renamed_held names) (map (held_as n) held) ≡ map (held_as n) (map (names n) held)
  same_held n [] = refl
  same_held n (k ∷ ks) = ap (λ hs. held_as n (names n k) ∷ hs) (same_held n ks)

  -- ---- a change

  module _ (s : DomainState) where
    pub renamed-changed : (c : Change) → renamed names (changed s c) ≡ changed (renamed names s) (renamed_change c)
    renamed-changed (endpoint_made at) = ap (λ es. record (changed (renamed names s) (endpoint_made at)) { endpoints = es }) (map-append (renamed_end names) s.endpoints (endpoint_with s at ∷ []))
    renamed-changed (endpoint_gone a) = ap (λ es. record (changed (renamed names s) (endpoint_gone a)) { endpoints = es }) (sym (filter-mapped (renamed_end names) (λ e. not (has_address_of a e)) (λ e. not (has_address_of a e)) (λ e. refl) s.endpoints))
    renamed-changed (item_queued a i) =
        ap (λ es. record (changed (renamed names s) (item_queued a (renamed_item names i))) { endpoints = es })
        (sym (changed_first-mapped (renamed_end names) (has_address_of a) (has_address_of a) (λ e. refl) (with_queue (λ q. q ++ renamed_item names i ∷ [])) (with_queue (λ q. q ++ i ∷ [])) (queue_more i) s.endpoints))
    renamed-changed (best_gone a) =
        ap (λ es. record (changed (renamed names s) (best_gone a)) { endpoints = es })
        (sym (changed_first-mapped (renamed_end names) (has_address_of a) (has_address_of a) (λ e. refl) (with_queue (without_best (λ i. i.priority))) (with_queue (without_best (λ i. i.priority))) queue_less s.endpoints))
    renamed-changed (oldest_gone a) =
        ap (λ es. record (changed (renamed names s) (oldest_gone a)) { endpoints = es }) (sym (changed_first-mapped (renamed_end names) (has_address_of a) (has_address_of a) (λ e. refl) (with_queue (drop 1)) (with_queue (drop 1)) queue_rest s.endpoints))
    renamed-changed (item_lost a i) = refl
    renamed-changed (channel_set a c) =
        ap (λ es. record (changed (renamed names s) (channel_set a c)) { endpoints = es })
        (sym (changed_first-mapped (renamed_end names) (has_address_of a) (has_address_of a) (λ e. refl) (with_channel c) (with_channel c) (λ e. refl) s.endpoints))
    renamed-changed (queue_dropped a c) =
        ap (λ es. record (changed (renamed names s) (queue_dropped a c)) { endpoints = es })
        (sym (changed_first-mapped (renamed_end names) (has_address_of a) (has_address_of a) (λ e. refl) (without_queue c) (without_queue c) (λ e. refl) s.endpoints))
    renamed-changed (request_added asked o) =
        ap (λ rs. record (changed (renamed names s) (request_added asked (option_map (renamed_outcome names) o))) { requests = rs })
        (map-append (renamed_request names) s.requests (record { serial = s.requests_given; asked = asked; outcome = o } ∷ []))
    renamed-changed (item_handed a i) =
        ap (λ rs. record (changed (renamed names s) (item_handed a (renamed_item names i))) { requests = rs })
        (handed (endpoint_of s a) i s.requests ∙ ap (λ o. handed_in o (renamed_item names i) (map (renamed_request names) s.requests)) (sym (endpoint-renamed s a)))
    renamed-changed (waiting_ended a word) =
        ap (λ rs. record (changed (renamed names s) (waiting_ended a word)) { requests = rs })
        (ended (endpoint_of s a) word s.requests ∙ ap (λ o. ended_in o word (map (renamed_request names) s.requests)) (sym (endpoint-renamed s a)))
    renamed-changed (name_found n a) = ap (λ rs. record (changed (renamed names s) (name_found n a)) { requests = rs }) (done (asks_for n) (has_address a) s.requests)
    renamed-changed (connect_settled n o) = ap (λ rs. record (changed (renamed names s) (connect_settled n (renamed_outcome names o))) { requests = rs }) (done (connects_on n) o s.requests)
    renamed-changed (request_gone place) = ap (λ rs. record (changed (renamed names s) (request_gone place)) { requests = rs }) (sym (without-mapped (renamed_request names) place s.requests))
    renamed-changed (end_announced a) = refl
    renamed-changed (reply_owed n r) = refl
    renamed-changed (owed_put n) = refl
    renamed-changed (buffers_back n count) = refl
    renamed-changed (frames_shown n count) = refl
    renamed-changed (frame_taken n part held) =
        ap (λ hs. record (changed (renamed names s) (frame_taken n part (map (names n) held))) { held = hs })
        (map-append (renamed_held names) (filter (λ h. not (holds_from n h)) s.held) (map (held_as n) held)
        ∙ ap₂ (λ xs ys. xs ++ ys) (sym (filter-mapped (renamed_held names) (λ h. not (holds_from n h)) (λ h. not (holds_from n h)) (λ h. refl) s.held)) (same_held n held))
    renamed-changed (names_known n known) = refl
    renamed-changed (buffers_used n count) = refl
    renamed-changed (packet_lent i) =
        ap (λ ps. record (changed (renamed names s) (packet_lent (renamed_item names i))) { lent = ps }) (map-append (renamed_packet names) s.lent (record { serial = s.packets_lent; item = i } ∷ []))
    renamed-changed (packet_gone place) = ap (λ ps. record (changed (renamed names s) (packet_gone place)) { lent = ps }) (sym (without-mapped (renamed_packet names) place s.lent))
    renamed-changed channel_given = refl

  pub renamed-all : (s : DomainState) (cs : List Change) → renamed names (changed_all s cs) ≡ changed_all (renamed names s) (map renamed_change cs)
  renamed-all s [] = refl
  renamed-all s (c ∷ cs) = renamed-all (changed s c) cs ∙ ap (λ t. changed_all t (map renamed_change cs)) (renamed-changed s c)
