-- The verdict on a letter, and on the frame that says it.
use Rattle.request_set.specs.declared.ask.Ask.{Ask}
use Rattle.std.proofs.Common.{◌≡◌, ℕ, zero, suc, ◌<◌, Bool, true, false, cond, List, [], ◌∷◌, ◌++◌, length, Option, Some, None, refl, sym, ap, ◌∙◌, subst, arith}
use Rattle.std.specs.List.{list_any}
use Rattle.std.specs.Prelude.{◌||◌, ◌==◌, find, is_some, nat_le, not, option_and_then, option_map, position, slice_get}
use Rattle.std.proofs.lemmas.List.{length-map}
use Rattle.std.proofs.lemmas.Option.{slice_get-map, slice_get_within}
use Rattle.mc_base.specs.Limits.{reply_limit}
use Rattle.mc_base.specs.Letter.{Piece, PlainLetter, msg, piece_in, plain_letter, saying_by, saying_of}
use Rattle.mc_base.specs.NameMap.{Names, address_in, forgotten, has_name}
use Rattle.mc_base.specs.Reading.{Reading, reading, says, says_so}
use Rattle.mc_base.specs.declared.channel.Kind.{Kind}
use Rattle.mc_base.specs.declared.channel.Reason.{Reason}
use Rattle.mc_base.specs.declared.channel.Reason.TheVariants as reason
use Rattle.mc_base.specs.declared.fate.Fate.TheVariants as fate
use Rattle.mc_base.specs.declared.letter.Letter.{Letter}
use Rattle.mc_base.specs.declared.name.EndName.{EndName}
use Rattle.mc_base.specs.declared.name.Local.{Local}
use Rattle.mc_base.specs.declared.request.RequestId.{RequestId}
use Rattle.board_model.specs.Change.{channel_set, item_handed, item_queued, reply_owed}
use Rattle.board_model.specs.ChannelEnds.{accepted_end}
use Rattle.board_model.specs.Parts.{Came}
use Rattle.board_model.specs.State as state
use Rattle.board_model.specs.State.{DomainState, Item, endpoint_of, has_address_of, peer_at, place_of_address}
use Rattle.board_model.specs.TakenFrames as taken
use Rattle.board_model.specs.TakenFrames.{Row, accepting, connect_rows, first_row, is_busy, letter_rows, rejecting, replies_to, row, row_from}
use Rattle.board_model.proofs.MessageLists.{get-position, some-position}
use Rattle.buffer_book.specs.Book.{Book}
use Rattle.packet_channel.specs.End.{end_of}
use Rattle.packet_channel.specs.declared.channel.Channel.{Channel}
use Rattle.request_set.specs.Requests.{IsPending, Standing, oldest_waiting, receives_at, request_of, waits_at}
use Rattle.domain_parts.specs.declared.dealing.Verdict.{Verdict}
use Rattle.domain_parts.specs.declared.dealing.Verdict.TheVariants as verdict
use Rattle.domain_parts.specs.declared.endpoints.Endpoint.{Endpoint}
use Rattle.domain_parts.specs.declared.replies.Reply.{Reply}
use Rattle.domain_parts.specs.Accepting.{Accepts, busy_at, has_end}
use Rattle.domain_parts.specs.InBook.{endpoint_in, endpoints_in, item_in}
use Rattle.domain_parts.specs.InRequests.{AreReceives}
use Rattle.domain_parts.specs.Peers.{reply_in}
use Rattle.domain_parts.specs.Records.{Records, kept, with_channel_at}
use Rattle.domain_parts.specs.Table.{holding}
use Rattle.domain_parts.specs.Verdicts.{AreBytes, Brings, Desk, Fits, IsHanded, IsItem, IsJudged, IsQueued, IsReturned, IsVerdict, Shows, accepts, desk, framed_item, letter_row, local_of, nothing, replies}
use Rattle.domain_parts.proofs.Pieces.{came_alone, row-no_piece}
use Rattle.domain_parts.proofs.Readings.{item-read}
use Rattle.domain_parts.proofs.Receives.{found-place, waiting-place}
use Rattle.domain_parts.proofs.Tables.{kept-new, some-end}

-- a name that is not known is not forgotten
pub none-forgotten : (n : EndName) (ks : Names) → is_some (address_in n ks) ≡ false → forgotten n ks ≡ ks
none-forgotten n [] none = refl
none-forgotten n (k ∷ ks) none =
    elim (has_name n k) as (λ t. is_some (option_map (λ (x : EndName × ℕ). x.1) (cond t (Some k) (find (has_name n) ks))) ≡ false → cond (not t) (k ∷ forgotten n ks) (forgotten n ks) ≡ k ∷ ks)
    [ true ↦ λ h. absurd cc | false ↦ λ h. ap (λ (xs : Names). k ∷ xs) (none-forgotten n ks h) ] none

-- ---- where a letter goes

pub one-there : {X : Type 0} (xs : List X) (i : ℕ) → i < length xs → (x : X) × (slice_get xs i ≡ Some x)
one-there [] i lt = absurd (omega (arith, lt))
one-there (x ∷ xs) zero lt = (x, refl)
one-there (x ∷ xs) (suc i) lt = one-there xs i (omega (arith, lt))

any_found : {X : Type 0} (p : X → Bool) (xs : List X) → list_any p xs ≡ is_some (find p xs)
any_found p [] = refl
any_found {X} p (x ∷ xs) = go (p x) (any_found p xs)
  where
    go : (b : Bool) → list_any p xs ≡ is_some (find p xs) → (b || list_any p xs) ≡ is_some (cond b (Some x) (find p xs))
    go true rest = refl
    go false rest = rest

some_mapped : (o : Option Standing) → is_some o ≡ is_some (option_map (λ (r : Standing). r.id) o)
some_mapped None = refl
some_mapped (Some r) = refl

none_mapped : (o : Option Standing) → None ≡ option_map (λ (r : Standing). r.id) o → o ≡ None
none_mapped None e = refl
none_mapped (Some r) e = absurd cc

pub some-channel : (o : Option Channel) → is_some o ≡ true → (c : Channel) × (Some c ≡ o)
some-channel None e = absurd cc
some-channel (Some c) e = (c, refl)

pub no-channel : (o : Option Channel) → is_some o ≡ false → None ≡ o
no-channel None e = refl
no-channel (Some c) e = absurd cc

-- whether the endpoint at a place has a channel
pub has-read : (es : List Endpoint) (i : ℕ) (e : Endpoint) → slice_get es i ≡ Some e → (h : Bool) → Some h ≡ option_map (λ (x : Endpoint). is_some x.channel) (slice_get es i) → is_some e.channel ≡ h
has-read es i e get h is = let same : Some h ≡ Some (is_some e.channel) = is ∙ ap (option_map (λ (x : Endpoint). is_some x.channel)) get in (let both : h ≡ is_some e.channel = cc in sym both)

-- an endpoint has this address, or none has
module _ (b : Book) (d : Desk) (s : DomainState) (peer : ℕ) (shows : Shows s peer b d) (dst : ℕ) where
  found : (o : Option ℕ) → o ≡ place_of_address (holding (endpoints_in b d.records.endpoints)) dst → endpoint_of s dst ≡ option_and_then (λ i. slice_get (endpoints_in b d.records.endpoints) i) o
  found o at = ap (find (has_address_of dst)) shows.endpoints ∙ sym (get-position (has_address_of dst) (endpoints_in b d.records.endpoints)) ∙ ap (option_and_then (λ i. slice_get (endpoints_in b d.records.endpoints) i)) (sym at)

  pub nobody-there : None ≡ place_of_address (holding (endpoints_in b d.records.endpoints)) dst → endpoint_of s dst ≡ None
  nobody-there at = found None at

  module _ (at : ℕ) (e : Endpoint) (there : Some at ≡ place_of_address (holding (endpoints_in b d.records.endpoints)) dst) (get : slice_get d.records.endpoints at ≡ Some e) where
    get_there : slice_get (endpoints_in b d.records.endpoints) at ≡ Some (endpoint_in b e)
    get_there = slice_get-map (endpoint_in b) d.records.endpoints at ∙ ap (option_map (endpoint_in b)) get

    pub end-there : endpoint_of s dst ≡ Some (endpoint_in b e)
    end-there = found (Some at) there ∙ get_there

    pub place-there : position (has_address_of dst) s.endpoints ≡ Some at
    place-there = ap (position (has_address_of dst)) shows.endpoints ∙ sym there

    within_there : at < length s.endpoints
    within_there = subst (λ (es : List state.Endpoint). at < length es) (sym shows.endpoints) (slice_get_within (endpoints_in b d.records.endpoints) at (endpoint_in b e) get_there)

    waits_so : position (state.waits_at e.local) s.requests ≡ position (waits_at e.local) d.requests.standing
    waits_so = ap (position (state.waits_at e.local)) shows.requests ∙ waiting-place b e.local d.requests.standing

    pub one-waits-so : state.one_waits s e.local ≡ is_some (oldest_waiting d.requests e.local)
    one-waits-so =
        any_found (state.waits_at e.local) s.requests
        ∙ sym (some-position (state.waits_at e.local) s.requests)
        ∙ ap is_some waits_so
        ∙ some-position (waits_at e.local) d.requests.standing
        ∙ some_mapped (find (waits_at e.local) d.requests.standing)

    -- ---- an item comes

    abbrev item_row : Item → Row
    item_row item = cond (state.one_waits s e.local) (row (state.one_waits s e.local) fate.Handed (item_handed dst item ∷ [])) (row true fate.Queued (item_queued dst item ∷ []))

    module _ (its : Row) (item : Item) (is : its ≡ item_row item) where
      by_waits : (w : Bool) → state.one_waits s e.local ≡ w → its ≡ cond w (row w fate.Handed (item_handed dst item ∷ [])) (row true fate.Queued (item_queued dst item ∷ []))
      by_waits w e' = is ∙ ap (λ x. cond x (row x fate.Handed (item_handed dst item ∷ [])) (row true fate.Queued (item_queued dst item ∷ []))) e'

      brought-queued : None ≡ oldest_waiting d.requests e.local → IsQueued s its item at
      brought-queued none = record {
        destination = dst;
        applies = true;
        row_is = by_waits false (one-waits-so ∙ ap is_some (sym none));
        at = place-there;
        within = within_there;
      }

      brought-handed : (id : RequestId) (a : Ask) → AreReceives d.requests → IsPending d.requests id → Some id ≡ oldest_waiting d.requests e.local → option_map (λ r. r.ask) (request_of d.requests id) ≡ Some a → receives_at e.local a ≡ true → IsHanded s d.requests its item id a
      brought-handed id a receives pending oldest asks receives_it =
          let same = found-place (waits_at e.local) id d.requests.standing receives.differ (sym oldest) in
          record {
            destination = dst;
            applies = true;
            row_is = by_waits true (one-waits-so ∙ ap is_some (sym oldest));
            endpoint = endpoint_in b e;
            named = end-there;
            waits = waits_so ∙ same;
            pending = pending;
            asks = asks;
            receives = receives_it;
          }

      -- as the code brings it
      named_so : (l : Local) → local_of d.records at ≡ Some l → e.local ≡ l
      named_so l is = let both = sym (ap (option_map (λ (x : Endpoint). x.local)) get) ∙ is in cc

      pub brought-judged : (came : Came) (source : ℕ) (l : PlainLetter) → its ≡ letter_row s came peer source dst l → item ≡ taken.item_of peer came source l → IsItem l → AreReceives d.requests → (priority size : ℕ) → priority ≡ item.priority → size ≡ length item.content → (v : Verdict) → Brings d.records d.requests at priority size v → IsJudged s came peer source dst l v d d
      brought-judged came source l row_is item_is lawful receives priority size prior long (verdict.Queued i p n) brings =
          let waits = brings.3 in (
            lawful,
            brings.2 ∙ long ∙ ap (λ (x : Item). length x.content) item_is,
            brings.1 ∙ prior ∙ ap (λ (x : Item). x.priority) item_is,
            subst (λ (j : ℕ). IsQueued s (letter_row s came peer source dst l) (taken.item_of peer came source l) j) (sym brings.0)
                (subst (λ (x : Item). IsQueued s (letter_row s came peer source dst l) x at) item_is (subst (λ (x : Row). IsQueued s x item at) row_is (brought-queued (subst (λ (x : Local). None ≡ oldest_waiting d.requests x) (sym (named_so waits.at waits.there)) waits.none)))),
            refl,
          )
      brought-judged came source l row_is item_is lawful receives priority size prior long (verdict.Handed id a n) brings =
          let waits = brings.1 in (
            lawful,
            brings.0 ∙ long ∙ ap (λ (x : Item). length x.content) item_is,
            subst (λ (x : Item). IsHanded s d.requests (letter_row s came peer source dst l) x id a) item_is (subst (λ (x : Row). IsHanded s d.requests x item id a) row_is (brought-handed id a receives waits.pending (subst (λ (x : Local). Some id ≡ oldest_waiting d.requests x) (sym (named_so waits.at waits.there)) waits.oldest) waits.asks (subst (λ (x : Local). receives_at x a ≡ true) (sym (named_so waits.at waits.there)) waits.receives))),
            refl,
          )
      brought-judged came source l row_is item_is lawful receives priority size prior long (verdict.Returned f) brings = absurd brings

    -- ---- a message

    module _ (came : Came) (source priority : ℕ) (content : List ℕ) where
      pub message-row : None ≡ e.channel → letter_row s came peer source dst (msg priority content) ≡ item_row (taken.message_item peer came source priority content)
      message-row none =
          ap (λ o. first_row (letter_rows s peer came source dst o (msg priority content))) end-there
          ∙ ap (λ o. first_row (taken.message_rows s dst (endpoint_in b e) (option_map end_of o) (taken.message_item peer came source priority content))) (sym none)

      pub on-channel : (c : Channel) → Some c ≡ e.channel → letter_row s came peer source dst (msg priority content) ≡ row true fate.OnChannel []
      on-channel c some =
          ap (λ o. first_row (letter_rows s peer came source dst o (msg priority content))) end-there
          ∙ ap (λ o. first_row (taken.message_rows s dst (endpoint_in b e) (option_map end_of o) (taken.message_item peer came source priority content))) (sym some)

-- ---- Connects

module _ (b : Book) (d : Desk) (s : DomainState) (peer : ℕ) (shows : Shows s peer b d) (source dst number : ℕ) (kind : Kind) where
  abbrev its : Option state.Endpoint → Row
  its to = first_row (connect_rows s peer source dst to number kind)

  abbrev pub replying : Option Reason → Reply
  replying o = record { source = dst; destination = source; channel = number; reason = o }

  full_so : (full : Bool) → full ≡ nat_le reply_limit (length d.replies) → nat_le reply_limit (replies_to (peer_at s peer)) ≡ full
  full_so full is = ap (nat_le reply_limit) shows.owed ∙ sym is

  -- 64 replies are owed
  pub connect-full : true ≡ nat_le reply_limit (length d.replies) → IsReturned s peer (its (endpoint_of s dst)) fate.RepliesFull d d
  connect-full full = record { effect = nothing; applies = nat_le reply_limit (replies_to (peer_at s peer)); row_is = by_end (endpoint_of s dst); returned = refl; placed = tt; left = refl }
    where
      by_end : (o : Option state.Endpoint) → its o ≡ row (nat_le reply_limit (replies_to (peer_at s peer))) fate.RepliesFull []
      by_end None = ap (λ x. cond x (row (nat_le reply_limit (replies_to (peer_at s peer))) fate.RepliesFull []) (row true fate.Owed (rejecting peer source dst number reason.NoEndpoint))) (full_so true full)
      by_end (Some e) = ap (λ x. cond x (row (nat_le reply_limit (replies_to (peer_at s peer))) fate.RepliesFull []) (cond (is_some e.channel) (row (is_some e.channel) fate.Owed (rejecting peer source dst number reason.Connected)) (cond (is_busy s e) (row (is_busy s e) fate.Owed (rejecting peer source dst number reason.Busy)) (row true fate.Owed (accepting peer source dst number kind))))) (full_so true full)

  module _ (room : false ≡ nat_le reply_limit (length d.replies)) where
    rejected : (o : Option state.Endpoint) (why : Reason) (applies : Bool) → endpoint_of s dst ≡ o → its o ≡ row applies fate.Owed (rejecting peer source dst number why) → IsReturned s peer (its (endpoint_of s dst)) fate.Owed d (desk d.records d.requests d.names (d.replies ++ replying (Some why) ∷ []))
    rejected o why applies at is = record { effect = replies (replying (Some why)); applies = applies; row_is = ap its at ∙ is; returned = refl; placed = tt; left = refl }

    pub connect-nobody : endpoint_of s dst ≡ None → IsReturned s peer (its (endpoint_of s dst)) fate.Owed d (desk d.records d.requests d.names (d.replies ++ replying (Some reason.NoEndpoint) ∷ []))
    connect-nobody at = rejected None reason.NoEndpoint true at (ap (λ x. cond x (row (nat_le reply_limit (replies_to (peer_at s peer))) fate.RepliesFull []) (row true fate.Owed (rejecting peer source dst number reason.NoEndpoint))) (full_so false room))

    module _ (at : ℕ) (e : Endpoint) (there : Some at ≡ place_of_address (holding (endpoints_in b d.records.endpoints)) dst) (get : slice_get d.records.endpoints at ≡ Some e) where
      abbrev x : state.Endpoint
      x = endpoint_in b e

      abbrev rows_then : Bool → Bool → Bool → Row
      rows_then full has busy =
          cond full (row (nat_le reply_limit (replies_to (peer_at s peer))) fate.RepliesFull [])
          (cond has (row (is_some x.channel) fate.Owed (rejecting peer source dst number reason.Connected))
          (cond busy (row (is_busy s x) fate.Owed (rejecting peer source dst number reason.Busy)) (row true fate.Owed (accepting peer source dst number kind))))

      has_so : (h : Bool) → Some h ≡ has_end d.records at → is_some x.channel ≡ h
      has_so h is = some-end e.channel ∙ has-read d.records.endpoints at e get h is

      busy_so : (w : Bool) → Some w ≡ busy_at d.records d.requests at → is_busy s x ≡ w
      busy_so w is =
          let same : Some w ≡ Some (not (length e.queue.waiting == 0) || is_some (oldest_waiting d.requests e.local)) = is ∙ ap (option_map (λ (y : Endpoint). not (length y.queue.waiting == 0) || is_some (oldest_waiting d.requests y.local))) get in
          let both : w ≡ (not (length e.queue.waiting == 0) || is_some (oldest_waiting d.requests e.local)) = cc in
          ap (λ (n : ℕ). not (n == 0) || state.one_waits s e.local) (length-map e.queue.waiting (item_in b))
          ∙ ap (λ (y : Bool). not (length e.queue.waiting == 0) || y) (one-waits-so b d s peer shows dst at e there get)
          ∙ sym both

      has_rows : (h : Bool) → Some h ≡ has_end d.records at → (w : Bool) → is_busy s x ≡ w → its (Some x) ≡ rows_then false h w
      has_rows h is w busy = ap (λ y. rows_then y (is_some x.channel) (is_busy s x)) (full_so false room) ∙ ap (λ y. rows_then false y (is_busy s x)) (has_so h is) ∙ ap (λ y. rows_then false h y) busy

      pub connect-answered : (end : Channel) → end_of end ≡ accepted_end kind peer number peer source → (o : Option Reason) (r' : Records) → Accepts d.records d.requests at end o r' → IsReturned s peer (its (endpoint_of s dst)) fate.Owed d (desk r' d.requests d.names (d.replies ++ replying o ∷ []))
      connect-answered end made None r' is =
          let same : kept end ≡ Some end = kept-new end made in
          record {
            effect = accepts at dst end (replying None);
            applies = true;
            row_is = ap its (end-there b d s peer shows dst at e there get) ∙ has_rows false is.0 false (busy_so false is.1)
                ∙ ap (λ c. row true fate.Owed (channel_set dst (Some c) ∷ reply_owed peer (reply_in (replying None)) ∷ [])) (sym made);
            returned = refl;
            placed = place-there b d s peer shows dst at e there get;
            left = ap (λ r. desk r d.requests d.names (d.replies ++ replying None ∷ [])) (is.2 ∙ ap (with_channel_at d.records at) same);
          }
      connect-answered end made (Some reason.Connected) r' is =
          subst (λ r. IsReturned s peer (its (endpoint_of s dst)) fate.Owed d (desk r d.requests d.names (d.replies ++ replying (Some reason.Connected) ∷ []))) (sym is.1)
          (rejected (Some x) reason.Connected (is_some x.channel) (end-there b d s peer shows dst at e there get) (has_rows true is.0 (is_busy s x) refl))
      connect-answered end made (Some reason.Busy) r' is =
          subst (λ r. IsReturned s peer (its (endpoint_of s dst)) fate.Owed d (desk r d.requests d.names (d.replies ++ replying (Some reason.Busy) ∷ []))) (sym is.2)
          (rejected (Some x) reason.Busy (is_busy s x) (end-there b d s peer shows dst at e there get) (has_rows false is.0 true (busy_so true is.1)))
      connect-answered end made (Some reason.NoEndpoint) r' is = absurd is

-- ---- the frame that says the letter

module _ (s : DomainState) (name : Option ℕ) (peer src dst : ℕ) (frame : List ℕ) (bytes : AreBytes frame) (l : PlainLetter) (is : says src dst l ≡ reading frame) where
  abbrev came : Came
  came = came_alone name

  row_so : letter_row s came peer src dst l ≡ row_from s peer name frame
  row_so = sym (row-no_piece s peer name frame (says src dst l) is tt)

  pub judged-verdict : (v : Verdict) (d d' : Desk) → IsJudged s came peer src dst l v d d' → IsVerdict s name peer frame 24 v d d'
  judged-verdict (verdict.Queued place priority size) d d' j =
      let c = item-read came peer frame bytes src dst l is j.0 in
      let item = taken.item_of peer came src l in
      let same : item ≡ framed_item came.names peer frame 24 size = c.is ∙ ap (framed_item came.names peer frame 24) (sym j.1) in
      (subst (λ (x : Row). IsQueued s x (framed_item came.names peer frame 24 size) place) row_so (subst (λ (i : Item). IsQueued s (letter_row s came peer src dst l) i place) same j.3), subst (Fits frame 24) (sym j.1) c.fits, c.says ∙ sym j.2, j.4)
  judged-verdict (verdict.Handed id max size) d d' j =
      let c = item-read came peer frame bytes src dst l is j.0 in
      let item = taken.item_of peer came src l in
      let same : item ≡ framed_item came.names peer frame 24 size = c.is ∙ ap (framed_item came.names peer frame 24) (sym j.1) in
      (subst (λ (x : Row). IsHanded s d.requests x (framed_item came.names peer frame 24 size) id max) row_so (subst (λ (i : Item). IsHanded s d.requests (letter_row s came peer src dst l) i id max) same j.2), subst (Fits frame 24) (sym j.1) c.fits, j.3)
  judged-verdict (verdict.Returned f) d d' j = subst (λ (x : Row). IsReturned s peer x f d d') row_so j

-- a letter that is no part of one
pub said-whole : (l : Letter) → piece_in l ≡ None → (src dst : ℕ) (r : Reading) → says_so src dst (saying_of l) ≡ r → says src dst (plain_letter l) ≡ r
said-whole l none src dst r is = sym (ap (λ (o : Option Piece). says_so src dst (saying_by o (plain_letter l))) none) ∙ is
