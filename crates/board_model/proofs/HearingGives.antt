-- What a taken frame takes and loses of a channel, by its requests and its word, is what its changes do; and queues stay as they are
-- bound to channels.
use Rattle.board_model.specs.Deeds.{taken_change}
use Rattle.board_model.specs.Parts.{Came}
use Rattle.std.proofs.Common.{◌≡◌, ℕ, Bool, true, false, not, cond, List, [], ◌∷◌, ◌++◌, map, find, flat_map, length, Option, Some, None, refl, sym, ap, ◌∙◌, subst, arith}
use Rattle.std.specs.Prelude.{◌==◌, ◌&&◌, ◌||◌, is_none}
use Rattle.std.specs.List.{AllByRecursion, list_any}
use Rattle.std.proofs.lemmas.Bool.{and_parts, cond_both, eqb-true, eq-eqb}
use Rattle.std.proofs.lemmas.List.{append-nil}
use Rattle.byteorder.specs.Endian.{little_bytes}
use Rattle.mc_base.specs.FullName.{endpoint_named}
use Rattle.mc_base.specs.Letter.{PlainLetter, msg, connect, accept, reject, recv_open, send_open, packet, scalar, send_close, recv_close, bytes_of_bits}
use Rattle.mc_base.specs.NameMap.{Names}
use Rattle.mc_base.specs.Reading.{Reading, is_faulty, announces, says, brings}
use Rattle.mc_base.specs.declared.name.Local.{Local}
use Rattle.mc_base.specs.declared.name.EndName.{EndName}
use Rattle.mc_base.specs.declared.channel.Kind.{Kind}
use Rattle.mc_base.specs.declared.channel.Kind.TheVariants.{Packet, Scalar}
use Rattle.mc_base.specs.declared.channel.Side.TheVariants.{Sender, Receiver}
use Rattle.mc_base.specs.declared.refusal.Refusal.TheVariants.{ChanClosed}
use Rattle.mc_base.specs.declared.fate.Fate.TheVariants as fate
use Rattle.board_model.specs.CallChanges.{at_live}
use Rattle.board_model.specs.Change.{channel_set, item_queued, item_handed, connects_on, asks_for, handed_in, changed, changed_all}
use Rattle.board_model.specs.ChannelEnds.{same_side, same_kind, is_closed, is_connecting, hears_from, sends_to, accepted_end, far_closed_end, data_rows}
use Rattle.board_model.specs.Channels.{is_of_channel, contents_of, data_said, is_lost}
use Rattle.board_model.specs.State.{connected, Item, ChannelEnd, Endpoint, Asked, name_of, channel_of, message_at, packet_at, has_address, is_accepted, is_rejected, Request, DomainState, is_at, has_address_of, endpoint_of, live_at, receives_at, waits_at, one_waits, oldest_waiting, peer_at}
use Rattle.board_model.specs.Takings.{Taking, taking, asked_address}
use Rattle.board_model.specs.TakenFrames.{Row, last_row, first_row, row_of, connect_rows, message_rows, rows_by, channel_rows, letter_rows, message_item, channel_item, item_of, name_rows, names_of, row}
use Rattle.board_model.proofs.ChannelWords.{end_is, hears, contents_if, taken_by, dropped_by, through}
use Rattle.board_model.proofs.HearingItems.{one_contents, message_none, came_agrees}
use Rattle.board_model.proofs.OrderSerials.{Differ, given_by_all}
use Rattle.board_model.proofs.OrderSound.{Sound, CameOn, Bound, bound_empty, bound_other, FitsEnd, FitsSound, FitAllSound, sound_bound, sound_named}
use Rattle.board_model.proofs.OrderTakings.{taken_of, IsOld, all_old, none_taken, done_old, ended_old, waiter_takes, found_pends, handed_takes}
use Rattle.board_model.proofs.LaneRows.{by_rows}
use Rattle.board_model.proofs.OrderChannels.{no_length, either_none, both_hold, hears_loud}
use Rattle.board_model.proofs.OrderEnds.{mute_sender, mute_closed}

abbrev pub items_of : List Taking → List Item
items_of ts = map (λ t. t.item) ts

-- ---- who waits

none_any : (p : Request → Bool) (rs : List Request) → find p rs ≡ None → list_any p rs ≡ false
none_any p [] none = refl
none_any p (r ∷ rs) none = go (p r) none (λ k. none_any p rs k)
  where
    go : (b : Bool) → cond b (Some r) (find p rs) ≡ None → (find p rs ≡ None → list_any p rs ≡ false) → (b || list_any p rs) ≡ false
    go true k later = absurd cc
    go false k later = later k

-- where one waits at an endpoint, the item goes to it
pub handed_items : (s : DomainState) → Sound s → Differ s.requests → (p : Endpoint → Bool) (e : Endpoint) → find p s.endpoints ≡ Some e → one_waits s e.local ≡ true → (i : Item) →
    items_of (waiter_takes s i (oldest_waiting s e.local)) ≡ i ∷ []
handed_items s sound differ p e found waits i = go (oldest_waiting s e.local) refl
  where
    named : (at : Local) → (at.node == e.local.node && at.port == e.local.port) ≡ true → at_live (live_at s at) (λ f. f.address ∷ []) ≡ e.address ∷ []
    named at same = ap (λ x. at_live x (λ f. f.address ∷ [])) (sound_named s sound at p e found (turned same))
      where
        turned : (at.node == e.local.node && at.port == e.local.port) ≡ true → is_at at e ≡ true
        turned h = grind (arith, eqb-true, eq-eqb, h)

    address : (asked : Asked) → receives_at e.local asked ≡ true → asked_address s asked ≡ e.address ∷ []
    address (message_at at max) here = named at here
    address (packet_at at) here = named at here
    address (name_of name) here = absurd cc
    address (channel_of number) here = absurd cc

    go : (x : Option Request) → oldest_waiting s e.local ≡ x → items_of (waiter_takes s i x) ≡ i ∷ []
    go None is = let never = none_any (waits_at e.local) s.requests is in absurd cc
    go (Some r) is =
        let pends = and_parts (is_none r.outcome) (receives_at e.local r.asked) (found_pends e.local s.requests r is) in
        ap (λ ks. items_of (map (λ a. taking (Some r.serial) a i) ks)) (address r.asked pends.1)

-- ---- ends

sender : (peer m : ℕ) (c : ChannelEnd) → sends_to peer m c ≡ true → same_side c.side Sender ≡ true
sender peer m c on = (and_parts (same_side c.side Sender) (c.number == m && c.peer == peer) on).0

-- the far end closes
far_bound : (q : List Item) (c : ChannelEnd) → Bound q (Some c) → Bound q (far_closed_end c)
far_bound q c bound =
    cond_both (is_closed c.stage) None (Some (record c { far_closed = true })) (Bound q)
    (λ shut. bound_empty q (bound.0 (mute_closed c shut)) None)
    (λ live. bound_other q c (record c { far_closed = true }) refl refl (λ m. m) bound)

-- ---- rows

module _ (o n : ℕ) (s : DomainState) (sound : Sound s) (differ : Differ s.requests) (peer : ℕ) (key : Came) where
  abbrev now : DomainState
  now = changed s (taken_change peer key)

  -- what the frame's row keeps, takes and loses
  pub record Gives (rd : Reading) (r : Row) : Type 0 where
    pub fits : FitAllSound now r.happens
    pub few : given_by_all r.happens ≡ 0
    pub taken : contents_of o n (items_of (taken_of s (changed_all now r.happens).requests)) ≡ through (taken_by o n) now r.happens
    pub lost : cond (is_lost r.word && peer == o) (data_said n rd) [] ≡ through (dropped_by o n) now r.happens

  -- a frame without data by which nothing is taken or lost
  quiet_row : (rd : Reading) (r : Row) → data_said n rd ≡ [] → FitAllSound now r.happens → given_by_all r.happens ≡ 0 → AllByRecursion (IsOld s) (changed_all now r.happens).requests → [] ≡ through (taken_by o n) now r.happens → [] ≡ through (dropped_by o n) now r.happens → Gives rd r
  quiet_row rd r none fits few old takes drops = record {
    fits = fits;
    few = few;
    taken = ap (λ ts. contents_of o n (items_of ts)) (none_taken s (changed_all now r.happens).requests old) ∙ takes;
    lost = ap (λ ds. cond (is_lost r.word && peer == o) ds []) none ∙ (both (is_lost r.word && peer == o) ∙ drops);
  }
    where
      both : (b : Bool) → cond {A = List (List ℕ)} b [] [] ≡ []
      both true = refl
      both false = refl

  idle_row : (rd : Reading) (r : Row) → data_said n rd ≡ [] → r.happens ≡ [] → Gives rd r
  idle_row rd r none is =
      quiet_row rd r none (subst (FitAllSound now) (sym is) tt) (ap given_by_all is) (subst (λ cs. AllByRecursion (IsOld s) (changed_all now cs).requests) (sym is) (all_old s)) (ap (through (taken_by o n) now) (sym is)) (ap (through (dropped_by o n) now) (sym is))

  -- a row by which nothing happens, and which is not too late
  still_row : (rd : Reading) (r : Row) → is_lost r.word ≡ false → r.happens ≡ [] → Gives rd r
  still_row rd r off is = record {
    fits = subst (FitAllSound now) (sym is) tt;
    few = ap given_by_all is;
    taken = ap (λ cs. contents_of o n (items_of (taken_of s (changed_all now cs).requests))) is ∙ (ap (λ ts. contents_of o n (items_of ts)) (none_taken s s.requests (all_old s)) ∙ ap (through (taken_by o n) now) (sym is));
    lost = ap (λ b. cond (b && peer == o) (data_said n rd) []) off ∙ ap (through (dropped_by o n) now) (sym is);
  }

  names_give : (text : List ℕ) (known : Names) (x : Option EndName) (address : ℕ) (there : Bool) → Gives (announces text address there) (first_row (name_rows peer known x address there))
  names_give text known None address there = idle_row _ _ refl refl
  names_give text known (Some m) address true = by_rows (Gives (announces text address true)) (name_rows peer known (Some m) address true) (
    (λ on. idle_row _ _ refl refl),
    (λ off. ((λ on. idle_row _ _ refl refl), (λ off2. quiet_row _ _ refl (tt, (tt, tt)) refl (done_old s (asks_for m) (has_address address) refl) refl refl))),
  )
  names_give text known (Some m) address false = by_rows (Gives (announces text address false)) (name_rows peer known (Some m) address false) (
    (λ on. idle_row _ _ refl refl),
    (λ off. ((λ on. idle_row _ _ refl refl), (λ off2. quiet_row _ _ refl (tt, tt) refl (all_old s) refl refl))),
  )

  module _ (source destination : ℕ) where
    -- ---- a Connect

    connects_give : (m : ℕ) (kind : Kind) (x : Option Endpoint) → endpoint_of s destination ≡ x → Gives (says source destination (connect m kind)) (first_row (connect_rows s peer source destination x m kind))
    connects_give m kind None found = by_rows (Gives (says source destination (connect m kind))) (connect_rows s peer source destination None m kind) (
      (λ on. idle_row _ _ refl refl),
      (λ off. quiet_row _ _ refl (tt, tt) refl (all_old s) refl refl),
    )
    connects_give m kind (Some e) found = by_rows (Gives (says source destination (connect m kind))) (connect_rows s peer source destination (Some e) m kind) (
      (λ on. idle_row _ _ refl refl),
      (λ off. (
        (λ on. quiet_row _ _ refl (tt, tt) refl (all_old s) refl refl),
        (λ off2. (
          (λ on. quiet_row _ _ refl (tt, tt) refl (all_old s) refl refl),
          (λ off3.
              let none : e.queue ≡ [] = no_length e.queue (either_none (not (length e.queue == 0)) (one_waits s e.local) off3).0 in
              quiet_row _ _ refl ((λ f is. let same : e ≡ f = cc in subst (λ x. Bound x.queue (Some (accepted_end kind peer m peer source))) same (bound_empty e.queue none (Some (accepted_end kind peer m peer source)))), (tt, tt)) refl (all_old s) refl refl),
        )),
      )),
    )

    -- ---- an item that comes to an endpoint

    module _ (e : Endpoint) (found : endpoint_of s destination ≡ Some e) where
      bound_here : Bound e.queue e.channel
      bound_here = sound_bound s sound (has_address_of destination) e found

      heard_here : (i : Item) → is_of_channel o n i ≡ end_is (hears_from o n) e.channel → contents_if (is_of_channel o n i) (i ∷ []) ≡ contents_if (hears o n (endpoint_of s destination)) (i ∷ []) ++ []
      heard_here i agrees =
          ap (λ b. contents_if b (i ∷ [])) agrees
          ∙ (sym (append-nil (contents_if (end_is (hears_from o n) e.channel) (i ∷ []))) ∙ ap (λ x. contents_if (hears o n x) (i ∷ []) ++ []) (sym found))

      handed_taken : (i : Item) → one_waits s e.local ≡ true → is_of_channel o n i ≡ end_is (hears_from o n) e.channel →
          contents_of o n (items_of (taken_of s (changed_all now (item_handed destination i ∷ [])).requests)) ≡ through (taken_by o n) now (item_handed destination i ∷ [])
      handed_taken i waits agrees =
          ap (λ x. contents_of o n (items_of (taken_of s (handed_in x i s.requests)))) found
          ∙ (ap (λ ts. contents_of o n (items_of ts)) (handed_takes s e i differ)
          ∙ (ap (contents_of o n) (handed_items s sound differ (has_address_of destination) e found waits i)
          ∙ (one_contents o n i ∙ heard_here i agrees)))

      queued_fits : (i : Item) → one_waits s e.local ≡ false → FitsEnd i e.channel → FitsSound now (item_queued destination i)
      queued_fits i free fits f is =
          let same : e ≡ f = cc in
          ((λ waits. let off : one_waits s f.local ≡ false = subst (λ x. one_waits s x.local ≡ false) same free in absurd cc), subst (λ x. FitsEnd i x.channel) same fits)

      -- ---- a message

      messages_give : (priority : ℕ) (content : List ℕ) (x : Option ChannelEnd) → e.channel ≡ x → Gives (says source destination (msg priority content)) (first_row (message_rows s destination e x (message_item peer key source priority content)))
      messages_give priority content (Some c) has = idle_row _ _ refl refl
      messages_give priority content None free =
          let i = message_item peer key source priority content in
          by_rows (Gives (says source destination (msg priority content))) (message_rows s destination e None (message_item peer key source priority content)) (
            (λ on. record { fits = (tt, tt); few = refl; taken = handed_taken i on (message_none o n i refl ∙ ap (end_is (hears_from o n)) (sym free)); lost = refl }),
            (λ off. record { fits = (queued_fits i off (subst (FitsEnd i) (sym free) refl), tt); few = refl; taken = ap (λ ts. contents_of o n (items_of ts)) (none_taken s s.requests (all_old s)); lost = refl }),
          )

      -- ---- a letter at the end of a channel

      module _ (c : ChannelEnd) (has : e.channel ≡ Some c) where
        bound_end : Bound e.queue (Some c)
        bound_end = subst (Bound e.queue) has bound_here

        set_fits : (x : Option ChannelEnd) → Bound e.queue x → FitsSound now (channel_set destination x)
        set_fits x bound f is = let same : e ≡ f = cc in subst (λ y. Bound y.queue x) same bound

        sender_fits : (x : Option ChannelEnd) → same_side c.side Sender ≡ true → FitsSound now (channel_set destination x)
        sender_fits x it = set_fits x (bound_empty e.queue (bound_end.0 (mute_sender c it)) x)

        open_fits : FitsSound now (channel_set destination (Some (record c { far_open = true })))
        open_fits = set_fits (Some (record c { far_open = true })) (bound_other e.queue c (record c { far_open = true }) refl refl (λ m. m) bound_end)

        -- a packet or a scalar
        module _ (m : ℕ) (content : List ℕ) (l : PlainLetter) (said : data_said n (says source destination l) ≡ cond (m == n) (content ∷ []) []) where
          abbrev item : Item
          item = channel_item peer key source m content

          came : hears_from peer m c ≡ true → CameOn c item
          came it =
              let names = and_parts (c.number == m) (c.owner == peer) (and_parts (same_side c.side Receiver) (c.number == m && c.owner == peer) it).1 in
              let owner : (peer == c.owner) ≡ true = eq-eqb peer c.owner (sym (eqb-true c.owner peer names.1)) in
              let number : (m == c.number) ≡ true = eq-eqb m c.number (sym (eqb-true c.number m names.0)) in
              rw (owner, number) refl

          agrees : hears_from peer m c ≡ true → is_of_channel o n item ≡ end_is (hears_from o n) e.channel
          agrees it = came_agrees o n c item (and_parts (same_side c.side Receiver) (c.number == m && c.owner == peer) it).0 (came it) ∙ ap (end_is (hears_from o n)) (sym has)

          nested : (a b : Bool) → cond a (cond b (content ∷ []) []) [] ≡ contents_if (a && b) (item ∷ [])
          nested true true = refl
          nested true false = refl
          nested false b = refl

          data_give : (k : Kind) → Gives (says source destination l) (first_row (flat_map (λ r. rows_by s destination e item l r.applies r.leaves r.word) (data_rows peer m k c) ++ last_row fate.State []))
          data_give k = by_rows (Gives (says source destination l)) (flat_map (λ r. rows_by s destination e item l r.applies r.leaves r.word) (data_rows peer m k c) ++ last_row fate.State []) (
            (λ on.
                let it = (and_parts (hears_from peer m c) (same_kind c.kind k && (not c.far_closed && is_closed c.stage)) on).0 in
                record {
                  fits = (tt, tt);
                  few = refl;
                  taken = ap (λ ts. contents_of o n (items_of ts)) (none_taken s s.requests (all_old s));
                  lost = ap (λ ds. cond (peer == o) ds []) said ∙ (nested (peer == o) (m == n) ∙ heard_here item (agrees it));
                }),
            (λ off. (
              (λ on.
                  let both = and_parts (hears_from peer m c && (same_kind c.kind k && not c.far_closed)) (one_waits s e.local) on in
                  let it = (and_parts (hears_from peer m c) (same_kind c.kind k && not c.far_closed) both.0).0 in
                  record { fits = (tt, tt); few = refl; taken = handed_taken item both.1 (agrees it); lost = refl }),
              (λ off2. (
                (λ on.
                    let it = (and_parts (hears_from peer m c) (same_kind c.kind k && not c.far_closed) on).0 in
                    let free : one_waits s e.local ≡ false = both_hold (hears_from peer m c && (same_kind c.kind k && not c.far_closed)) (one_waits s e.local) on off2 in
                    record {
                      fits = (queued_fits item free (subst (FitsEnd item) (sym has) (hears_loud peer m k c off on, came it)), tt);
                      few = refl;
                      taken = ap (λ ts. contents_of o n (items_of ts)) (none_taken s s.requests (all_old s));
                      lost = refl;
                    }),
                (λ off3. record { fits = tt; few = refl; taken = ap (λ ts. contents_of o n (items_of ts)) (none_taken s s.requests (all_old s)); lost = refl }),
              )),
            )),
          )

        ends_give : (l : PlainLetter) → Gives (says source destination l) (first_row (channel_rows s peer destination e (Some c) (item_of peer key source l) l))
        ends_give (accept m) = by_rows (Gives (says source destination (accept m))) (channel_rows s peer destination e (Some c) (item_of peer key source (accept m)) (accept m)) (
          (λ on. quiet_row _ _ refl (sender_fits (Some (record c { stage = connected })) (sender peer m c (and_parts (sends_to peer m c) (is_connecting c.stage) on).0), (tt, tt)) refl (done_old s (connects_on m) is_accepted refl) refl refl),
          (λ off. idle_row _ _ refl refl),
        )
        ends_give (reject m why) = by_rows (Gives (says source destination (reject m why))) (channel_rows s peer destination e (Some c) (item_of peer key source (reject m why)) (reject m why)) (
          (λ on. quiet_row _ _ refl (sender_fits None (sender peer m c (and_parts (sends_to peer m c) (is_connecting c.stage) on).0), (tt, tt)) refl (done_old s (connects_on m) (is_rejected why) refl) refl refl),
          (λ off. idle_row _ _ refl refl),
        )
        ends_give (recv_open m) = by_rows (Gives (says source destination (recv_open m))) (channel_rows s peer destination e (Some c) (item_of peer key source (recv_open m)) (recv_open m)) (
          (λ on. quiet_row _ _ refl (open_fits, tt) refl (all_old s) refl refl),
          (λ off. idle_row _ _ refl refl),
        )
        ends_give (send_open m) = by_rows (Gives (says source destination (send_open m))) (channel_rows s peer destination e (Some c) (item_of peer key source (send_open m)) (send_open m)) (
          (λ on. quiet_row _ _ refl (open_fits, tt) refl (all_old s) refl refl),
          (λ off. idle_row _ _ refl refl),
        )
        ends_give (recv_close m) = by_rows (Gives (says source destination (recv_close m))) (channel_rows s peer destination e (Some c) (item_of peer key source (recv_close m)) (recv_close m)) (
          (λ on. quiet_row _ _ refl (set_fits (far_closed_end c) (far_bound e.queue c bound_end), tt) refl (all_old s) refl refl),
          (λ off. idle_row _ _ refl refl),
        )
        ends_give (send_close m) = by_rows (Gives (says source destination (send_close m))) (channel_rows s peer destination e (Some c) (item_of peer key source (send_close m)) (send_close m)) (
          (λ on. quiet_row _ _ refl (tt, (set_fits (far_closed_end c) (far_bound e.queue c bound_end), tt)) refl (ended_old s (endpoint_of s destination) ChanClosed) refl refl),
          (λ off. idle_row _ _ refl refl),
        )
        ends_give (packet m content) = data_give m content (packet m content) refl Packet
        ends_give (scalar m bits value) = data_give m (little_bytes (bytes_of_bits bits) value) (scalar m bits value) refl Scalar
        ends_give (msg priority content) = idle_row _ _ refl refl
        ends_give (connect m kind) = idle_row _ _ refl refl

      channels_give : (x : Option ChannelEnd) → e.channel ≡ x → (l : PlainLetter) → Gives (says source destination l) (first_row (channel_rows s peer destination e x (item_of peer key source l) l))
      channels_give None free l = still_row _ _ refl refl
      channels_give (Some c) has l = ends_give c has l

    letters_give : (x : Option Endpoint) → endpoint_of s destination ≡ x → (l : PlainLetter) → Gives (says source destination l) (first_row (letter_rows s peer key source destination x l))
    letters_give x found (connect m kind) = connects_give m kind x found
    letters_give None found l = still_row _ _ refl refl
    letters_give (Some e) found (msg priority content) = messages_give e found priority content e.channel refl
    letters_give (Some e) found l = channels_give e found e.channel refl l

  pub row_gives : (rd : Reading) → Gives rd (row_of s peer key rd)
  row_gives (is_faulty f) = idle_row (is_faulty f) _ refl refl
  row_gives (announces text address there) = names_give text (names_of (peer_at s peer)) (endpoint_named text) address there
  row_gives (brings source destination q) = by_rows (Gives (brings source destination q)) (row (is_none key.part) fate.Stray [] ∷ last_row fate.Part []) ((λ on. idle_row (brings source destination q) _ refl refl), (λ off. idle_row (brings source destination q) _ refl refl))
  row_gives (says source destination l) = letters_give source destination (endpoint_of s destination) refl l
