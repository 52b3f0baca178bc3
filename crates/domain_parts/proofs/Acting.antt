-- A letter to an end of a channel: the first row of the domain's table is that of the end's.
use Rattle.std.proofs.Common.{◌≡◌, ℕ, Bool, true, false, cond, List, [], ◌∷◌, ◌++◌, length, Option, Some, None, refl, sym, ap, ◌∙◌, subst}
use Rattle.std.specs.Borrow.{Bor}
use Rattle.std.specs.List.{AllByRecursion, flat_map}
use Rattle.std.specs.Prelude.{option_map, slice_get, position}
use Rattle.mc_base.specs.Letter.{PlainLetter, accept, connect, msg, packet, piece_in, plain_letter, recv_close, recv_open, reject, scalar, send_close, send_open}
use Rattle.mc_base.specs.declared.channel.Bits.TheVariants.{B8, B16, B32, B64}
use Rattle.mc_base.specs.declared.channel.Kind.{Kind}
use Rattle.mc_base.specs.declared.fate.Fate.{Fate}
use Rattle.mc_base.specs.declared.fate.Fate.TheVariants as fate
use Rattle.mc_base.specs.declared.letter.Letter.{Letter}
use Rattle.mc_base.specs.declared.letter.Letter.TheVariants as letter
use Rattle.board_model.specs.Change.{item_handed, item_lost, item_queued}
use Rattle.board_model.specs.ChannelEnds.{EndRow, end_row_of, end_rows, first_end_row, left_row}
use Rattle.board_model.specs.State as state
use Rattle.board_model.specs.State.{ChannelEnd, DomainState, Item, endpoint_of, place_of_address, has_address_of}
use Rattle.board_model.specs.TakenFrames as taken
use Rattle.board_model.specs.Parts.{Came}
use Rattle.board_model.specs.TakenFrames.{Row, acting, channel_rows, first_row, last_row, letter_rows, row, rows_by}
use Rattle.buffer_book.specs.Book.{Book}
use Rattle.packet_channel.specs.End.{end_of}
use Rattle.packet_channel.specs.declared.channel.Channel.{Channel}
use Rattle.request_set.specs.Requests.{Requests}
use Rattle.domain_parts.specs.declared.dealing.Verdict.{Verdict}
use Rattle.domain_parts.specs.declared.endpoints.Endpoint.{Endpoint}
use Rattle.domain_parts.specs.Accepting.{DoesBy, DoesRow, Hears, Leaves, settled_by, size_of}
use Rattle.domain_parts.specs.InBook.{endpoint_in, endpoints_in}
use Rattle.domain_parts.specs.InRequests.{AreReceives}
use Rattle.domain_parts.specs.Records.{Records, with_channel_at}
use Rattle.domain_parts.specs.Table.{holding}
use Rattle.domain_parts.specs.Verdicts.{Desk, Effect, IsItem, IsJudged, IsPlaced, IsReturned, Shows, desk, effect_changes, ends, left_by, letter_row, loses, nothing, requests_left, sets, settles}
use Rattle.domain_parts.proofs.Judging.{brought-judged, end-there, place-there}

-- ---- letters of channels

abbrev pub IsOfChannel : PlainLetter → Type 0
IsOfChannel (msg priority content) = ⊥
IsOfChannel (connect number kind) = ⊥
IsOfChannel other = Unit {0}

pub of-channel : (l : Letter) → ((priority : ℕ) (bytes : Bor (List ℕ)) → l ≡ letter.Msg priority bytes → ⊥) → ((channel : ℕ) (kind : Kind) → l ≡ letter.Connect channel kind → ⊥) → piece_in l ≡ None → IsOfChannel (plain_letter l)
of-channel (letter.Msg priority bytes) no_message no_connect whole = absurd (no_message priority bytes refl)
of-channel (letter.Connect channel kind) no_message no_connect whole = absurd (no_connect channel kind refl)
of-channel (letter.Accept channel) no_message no_connect whole = tt
of-channel (letter.Reject channel reason) no_message no_connect whole = tt
of-channel (letter.RecvOpen channel) no_message no_connect whole = tt
of-channel (letter.SendOpen channel) no_message no_connect whole = tt
of-channel (letter.Packet channel bytes) no_message no_connect whole = tt
of-channel (letter.Scalar channel bits value) no_message no_connect whole = tt
of-channel (letter.SendClose channel) no_message no_connect whole = tt
of-channel (letter.RecvClose channel) no_message no_connect whole = tt
of-channel (letter.PacketPart channel total offset bytes) no_message no_connect whole = tt
of-channel (letter.MsgPart priority total offset bytes) no_message no_connect whole = absurd cc

-- a letter that is no part of one
pub no-piece : (l : Letter) → ((priority total offset : ℕ) (bytes : Bor (List ℕ)) → l ≡ letter.MsgPart priority total offset bytes → ⊥) → ((channel total offset : ℕ) (bytes : Bor (List ℕ)) → l ≡ letter.PacketPart channel total offset bytes → ⊥) → piece_in l ≡ None
no-piece (letter.MsgPart priority total offset bytes) no_message no_packet = absurd (no_message priority total offset bytes refl)
no-piece (letter.PacketPart channel total offset bytes) no_message no_packet = absurd (no_packet channel total offset bytes refl)
no-piece other no_message no_packet = refl

-- one to no endpoint
pub nobody-row : (l : Letter) → ((channel : ℕ) (kind : Kind) → l ≡ letter.Connect channel kind → ⊥) → (s : DomainState) (came : Came) (peer source dst : ℕ) → endpoint_of s dst ≡ None → letter_row s came peer source dst (plain_letter l) ≡ row true fate.NoEndpoint []
nobody-row l no_connect s came peer source dst none = ap (λ o. first_row (letter_rows s peer came source dst o (plain_letter l))) none ∙ ap first_row (go l no_connect)
  where
    go : (l : Letter) → ((channel : ℕ) (kind : Kind) → l ≡ letter.Connect channel kind → ⊥) → letter_rows s peer came source dst None (plain_letter l) ≡ last_row fate.NoEndpoint []
    go (letter.Connect channel kind) other = absurd (other channel kind refl)
    go (letter.Msg priority bytes) other = refl
    go (letter.Accept channel) other = refl
    go (letter.Reject channel reason) other = refl
    go (letter.RecvOpen channel) other = refl
    go (letter.SendOpen channel) other = refl
    go (letter.Packet channel bytes) other = refl
    go (letter.Scalar channel bits value) other = refl
    go (letter.SendClose channel) other = refl
    go (letter.RecvClose channel) other = refl
    go (letter.MsgPart priority total offset bytes) other = refl
    go (letter.PacketPart channel total offset bytes) other = refl

rows-of-channel : (l : PlainLetter) → IsOfChannel l → (s : DomainState) (came : Came) (peer source dst : ℕ) (x : state.Endpoint) → letter_rows s peer came source dst (Some x) l ≡ channel_rows s peer dst x x.channel (taken.item_of peer came source l) l
rows-of-channel (msg priority content) is s came peer source dst x = absurd is
rows-of-channel (connect number kind) is s came peer source dst x = absurd is
rows-of-channel other is s came peer source dst x = refl

size-is : (l : PlainLetter) → IsItem l → (came : Came) (peer source : ℕ) → size_of l ≡ length (taken.item_of peer came source l).content
size-is (msg priority content) is came peer source = refl
size-is (packet number content) is came peer source = refl
size-is (scalar number B8 value) is came peer source = refl
size-is (scalar number B16 value) is came peer source = refl
size-is (scalar number B32 value) is came peer source = refl
size-is (scalar number B64 value) is came peer source = refl
size-is other is came peer source = absurd is

no-priority : (l : PlainLetter) → IsOfChannel l → IsItem l → (came : Came) (peer source : ℕ) → 0 ≡ (taken.item_of peer came source l).priority
no-priority (packet number content) of is came peer source = refl
no-priority (scalar number bits value) of is came peer source = refl
no-priority (msg priority content) of is came peer source = absurd of
no-priority other of is came peer source = absurd is

-- ---- the words of an end's rows

-- no row hands an item or holds a part of one, and only an item is queued
abbrev Fine : PlainLetter → Fate → Type 0
Fine l w = (w ≡ fate.Handed → ⊥) × (w ≡ fate.Queued → IsItem l) × (w ≡ fate.Part → ⊥)

fine-rows : (peer : ℕ) (c : ChannelEnd) (l : PlainLetter) → AllByRecursion (λ r. Fine l r.word) (end_rows peer c l)
fine-rows peer c (msg priority content) = tt
fine-rows peer c (connect number kind) = tt
fine-rows peer c (accept number) = ((λ e. absurd cc, λ e. absurd cc, λ e. absurd cc), tt)
fine-rows peer c (reject number reason) = ((λ e. absurd cc, λ e. absurd cc, λ e. absurd cc), tt)
fine-rows peer c (recv_open number) = ((λ e. absurd cc, λ e. absurd cc, λ e. absurd cc), tt)
fine-rows peer c (recv_close number) = ((λ e. absurd cc, λ e. absurd cc, λ e. absurd cc), tt)
fine-rows peer c (send_open number) = ((λ e. absurd cc, λ e. absurd cc, λ e. absurd cc), tt)
fine-rows peer c (packet number content) = ((λ e. absurd cc, λ e. tt, λ e. absurd cc), ((λ e. absurd cc, λ e. tt, λ e. absurd cc), tt))
fine-rows peer c (scalar number bits value) = ((λ e. absurd cc, λ e. tt, λ e. absurd cc), ((λ e. absurd cc, λ e. tt, λ e. absurd cc), tt))
fine-rows peer c (send_close number) = ((λ e. absurd cc, λ e. absurd cc, λ e. absurd cc), tt)

first-fine : (l : PlainLetter) (c : ChannelEnd) (rs : List EndRow) → AllByRecursion (λ r. Fine l r.word) rs → Fine l (first_end_row rs (left_row (Some c))).word
first-fine l c [] all = (λ e. absurd cc, λ e. absurd cc, λ e. absurd cc)
first-fine l c (r ∷ rs) all = go r.applies (first-fine l c rs all.1)
  where
    go : (b : Bool) → Fine l (first_end_row rs (left_row (Some c))).word → Fine l (cond b r (first_end_row rs (left_row (Some c)))).word
    go true rest = all.0
    go false rest = rest

-- ---- the first row

module _ (s : DomainState) (dst : ℕ) (x : state.Endpoint) (i : Item) (l : PlainLetter) where
  abbrev waits : Bool
  waits = state.one_waits s x.local

  -- the row of a word
  abbrev row_at : Fate → Option ChannelEnd → Row
  row_at fate.Queued left = cond waits (row waits fate.Handed (item_handed dst i ∷ [])) (row true fate.Queued (item_queued dst i ∷ []))
  row_at fate.Acted left = row true fate.Acted (acting dst left l)
  row_at fate.Closed left = row true fate.Closed (item_lost dst i ∷ [])
  row_at word left = row true word []

  abbrev rows_of : EndRow → List Row
  rows_of r = rows_by s dst x i l r.applies r.leaves r.word

  -- one row before others, of which there is a last
  before : (r : Row) (rest : List Row) → first_row (r ∷ (rest ++ last_row fate.State [])) ≡ cond r.applies r (first_row (rest ++ last_row fate.State []))
  before r [] = refl
  before r (q ∷ rest) = refl

  it_applies : (word : Fate) (left : Option ChannelEnd) (rest : List Row) → first_row ((rows_by s dst x i l true left word ++ rest) ++ last_row fate.State []) ≡ row_at word left
  it_applies fate.Queued left rest = ap (λ z. cond waits (row waits fate.Handed (item_handed dst i ∷ [])) z) (before (row true fate.Queued (item_queued dst i ∷ [])) rest)
  it_applies fate.Acted left rest = before (row true fate.Acted (acting dst left l)) rest
  it_applies fate.Closed left rest = before (row true fate.Closed (item_lost dst i ∷ [])) rest
  it_applies word left rest = before (row true word []) rest

  it_passes : (word : Fate) (left : Option ChannelEnd) (rest : List Row) → first_row ((rows_by s dst x i l false left word ++ rest) ++ last_row fate.State []) ≡ first_row (rest ++ last_row fate.State [])
  it_passes fate.Queued left rest = before (row false fate.Queued (item_queued dst i ∷ [])) rest
  it_passes fate.Acted left rest = before (row false fate.Acted (acting dst left l)) rest
  it_passes fate.Closed left rest = before (row false fate.Closed (item_lost dst i ∷ [])) rest
  it_passes word left rest = before (row false word []) rest

  -- the domain's first row is that of the end's first row
  pub first-is : (c : ChannelEnd) (rs : List EndRow) → first_row (flat_map rows_of rs ++ last_row fate.State []) ≡ row_at (first_end_row rs (left_row (Some c))).word (first_end_row rs (left_row (Some c))).leaves
  first-is c [] = refl
  first-is c (r ∷ rs) = go r.applies (first-is c rs)
    where
      go : (b : Bool) → first_row (flat_map rows_of rs ++ last_row fate.State []) ≡ row_at (first_end_row rs (left_row (Some c))).word (first_end_row rs (left_row (Some c))).leaves
          → first_row ((rows_by s dst x i l b r.leaves r.word ++ flat_map rows_of rs) ++ last_row fate.State []) ≡ row_at (cond b r (first_end_row rs (left_row (Some c)))).word (cond b r (first_end_row rs (left_row (Some c)))).leaves
      go true rest = it_applies r.word r.leaves (flat_map rows_of rs)
      go false rest = it_passes r.word r.leaves (flat_map rows_of rs) ∙ rest

-- ---- the verdict

module _ (b : Book) (d : Desk) (s : DomainState) (came : Came) (peer : ℕ) (shows : Shows s peer b d) (source dst at : ℕ) (e : Endpoint) (there : Some at ≡ place_of_address (holding (endpoints_in b d.records.endpoints)) dst) (get : slice_get d.records.endpoints at ≡ Some e)
    (l : PlainLetter) (of : IsOfChannel l) (receives : AreReceives d.requests) where
  abbrev x : state.Endpoint
  x = endpoint_in b e

  abbrev item : Item
  item = taken.item_of peer came source l

  abbrev its : Row
  its = letter_row s came peer source dst l

  at_end : its ≡ first_row (channel_rows s peer dst x (option_map end_of e.channel) item l)
  at_end = ap (λ o. first_row (letter_rows s peer came source dst o l)) (end-there b d s peer shows dst at e there get) ∙ ap first_row (rows-of-channel l of s came peer source dst x)

  -- what it does, where it acts
  acted : (r' : Records) (q' : Requests) (left : Option ChannelEnd) → its ≡ row true fate.Acted (acting dst left l) → Leaves d.records r' d.requests q' at l left → IsReturned s peer its fate.Acted d (desk r' q' d.names d.replies)
  acted r' q' left row_is leaves = go l (row_is ∙ ap (λ o. row true fate.Acted (acting dst o l)) (sym leaves.is)) leaves.requests
    where
      local : e.local ≡ leaves.at
      local = let both = leaves.named ∙ ap (option_map (λ (y : Endpoint). y.local)) get in (let same : leaves.at ≡ e.local = cc in sym same)

      by : (f : Effect) → its ≡ row true fate.Acted (effect_changes peer f) → IsPlaced s f → left_by f d ≡ desk (with_channel_at d.records at leaves.channel) (requests_left f d.requests) d.names d.replies → q' ≡ requests_left f d.requests → IsReturned s peer its fate.Acted d (desk r' q' d.names d.replies)
      by f is placed left_is requests = record {
        effect = f;
        applies = true;
        row_is = is;
        returned = refl;
        placed = placed;
        left = ap (λ r. desk r q' d.names d.replies) leaves.records ∙ ap (λ q. desk (with_channel_at d.records at leaves.channel) q d.names d.replies) requests ∙ sym left_is;
      }

      place : position (has_address_of dst) s.endpoints ≡ Some at
      place = place-there b d s peer shows dst at e there get

      go : (m : PlainLetter) → its ≡ row true fate.Acted (acting dst (option_map end_of leaves.channel) m) → q' ≡ settled_by leaves.at m d.requests → IsReturned s peer its fate.Acted d (desk r' q' d.names d.replies)
      go (accept number) is requests = by (settles at dst leaves.channel number None) is place refl requests
      go (reject number reason) is requests = by (settles at dst leaves.channel number (Some reason)) is place refl requests
      go (send_close number) is requests = by (ends at dst leaves.channel leaves.at) is (place, record { endpoint = x; there = end-there b d s peer shows dst at e there get; named = local }) refl requests
      go other is requests = by (sets at dst leaves.channel) is place refl requests

  by_word : (word : Fate) (left : Option ChannelEnd) → its ≡ row_at s dst x item l word left → Fine l word → (r' : Records) (q' : Requests) (v : Verdict) → DoesBy word left d.records r' d.requests q' at l v → IsJudged s came peer source dst l v d (desk r' q' d.names d.replies)
  by_word fate.Handed left is fine r' q' v does = absurd (fine.0 refl)
  by_word fate.Part left is fine r' q' v does = absurd (fine.2 refl)
  by_word fate.Queued left is fine r' q' v does =
      let lawful = fine.1 refl in
      subst (λ r. IsJudged s came peer source dst l v d (desk r q' d.names d.replies)) (sym does.1)
      (subst (λ q. IsJudged s came peer source dst l v d (desk d.records q d.names d.replies)) (sym does.2)
      (brought-judged b d s peer shows dst at e there get its item is came source l refl refl lawful receives 0 (size_of l) (no-priority l of lawful came peer source) (size-is l lawful came peer source) v does.0))
  by_word fate.Acted left is fine r' q' v does = subst (λ w. IsJudged s came peer source dst l w d (desk r' q' d.names d.replies)) (sym does.0) (acted r' q' left is does.1)
  by_word fate.Closed left is fine r' q' v does =
      subst (λ w. IsJudged s came peer source dst l w d (desk r' q' d.names d.replies)) (sym does.0)
      (record { effect = loses dst item; applies = true; row_is = is; returned = refl; placed = tt; left = ap (λ r. desk r q' d.names d.replies) does.1 ∙ ap (λ q. desk d.records q d.names d.replies) does.2 })
  by_word word left is fine r' q' v does =
      subst (λ w. IsJudged s came peer source dst l w d (desk r' q' d.names d.replies)) (sym does.0)
      (record { effect = nothing; applies = true; row_is = is; returned = refl; placed = tt; left = ap (λ r. desk r q' d.names d.replies) does.1 ∙ ap (λ q. desk d.records q d.names d.replies) does.2 })

  pub acted-judged : (r' : Records) (q' : Requests) (v : Verdict) → Hears d.records r' d.requests q' peer at l v → IsJudged s came peer source dst l v d (desk r' q' d.names d.replies)
  acted-judged r' q' v hears = go hears.channel (let both = hears.there ∙ ap (option_map (λ (y : Endpoint). y.channel)) get in (let same : hears.channel ≡ e.channel = cc in same)) hears.does
    where
      go : (o : Option Channel) → o ≡ e.channel → DoesRow (end_row_of peer (option_map end_of o) l) d.records r' d.requests q' at l v → IsJudged s came peer source dst l v d (desk r' q' d.names d.replies)
      go None none does = by_word fate.State None (at_end ∙ ap (λ o. first_row (channel_rows s peer dst x (option_map end_of o) item l)) (sym none)) (λ e. absurd cc, λ e. absurd cc, λ e. absurd cc) r' q' v does
      go (Some c) some does =
          let row = end_row_of peer (Some (end_of c)) l in
          by_word row.word row.leaves
          (at_end ∙ ap (λ o. first_row (channel_rows s peer dst x (option_map end_of o) item l)) (sym some) ∙ first-is s dst x item l (end_of c) (end_rows peer (end_of c) l))
          (first-fine l (end_of c) (end_rows peer (end_of c) l) (fine-rows peer (end_of c) l)) r' q' v does
