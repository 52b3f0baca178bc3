-- What is done with a frame that brings a piece: it goes on with the open part of its peer, begins one, or is stray.
use Rattle.std.proofs.Common.{◌≡◌, ℕ, ◌+◌, ◌≤◌, Bool, true, false, cond, List, [], ◌∷◌, ◌++◌, length, take, drop, Option, Some, None, refl, sym, ap, ap₂, ◌∙◌, subst, arith, length-append}
use Rattle.std.specs.Prelude.{◌==◌}
use Rattle.mc_base.specs.Frame.{source_of}
use Rattle.mc_base.specs.Letter.{Carrier, Piece as PlainPiece, PlainLetter, carried}
use Rattle.mc_base.specs.Limits.{item_size}
use Rattle.mc_base.specs.Reading.{brings, reading, says}
use Rattle.mc_base.specs.declared.fate.Fate.{Fate}
use Rattle.mc_base.specs.declared.fate.Fate.TheVariants as fate
use Rattle.mc_base.specs.declared.request.Slot.{Slot}
use Rattle.board_model.specs.Change.{frame_taken}
use Rattle.board_model.specs.Dealing.{keeps_buffer}
use Rattle.board_model.specs.Deeds.{taken_change}
use Rattle.board_model.specs.Parts.{Came, Coming, came_by, came_from, coming, coming_from, coming_so, alone, begins, goes_on, named_so, names_ended, part_of}
use Rattle.board_model.specs.Returns.{given_at_once, given_by_frame}
use Rattle.board_model.specs.State as state
use Rattle.board_model.specs.State.{DomainState, Part, held_of}
use Rattle.board_model.specs.TakenFrames as taken
use Rattle.board_model.specs.TakenFrames.{Row, row_from}
use Rattle.buffer_book.specs.Book.{Book}
use Rattle.request_set.specs.Requests.{Requests}
use Rattle.domain_parts.specs.declared.dealing.Dealt.{Dealt}
use Rattle.domain_parts.specs.declared.dealing.Dealt.TheVariants as dealt
use Rattle.domain_parts.specs.declared.dealing.Verdict.{Verdict}
use Rattle.domain_parts.specs.declared.dealing.Verdict.TheVariants as verdict
use Rattle.domain_parts.specs.declared.parts.OpenPart.{OpenPart}
use Rattle.domain_parts.specs.declared.parts.Piece.{Piece}
use Rattle.domain_parts.specs.declared.replies.Reply.{Reply}
use Rattle.domain_parts.specs.Dealt.{GrowsBy, IsDealt, item_whole, piece_bytes, whole_as}
use Rattle.domain_parts.specs.Growing.{IsPiece, begun_by, grown_by, is_whole}
use Rattle.domain_parts.specs.InBook.{channel_of, content_in, priority_of, whole_at}
use Rattle.domain_parts.specs.Pieces.{carrier_channel, carrier_in, carrier_of, carrier_priority, part_with}
use Rattle.domain_parts.specs.Records.{Records, part_open}
use Rattle.domain_parts.specs.Verdicts.{Desk, Fits, IsHanded, IsJudged, IsQueued, IsReturned, IsVerdict, Shows, desk, fate_of, framed_item, item_with, letter_row, nothing}
use Rattle.mc_base.specs.NameMap.{Names}
use Rattle.domain_parts.proofs.Items.{carried-item}
use Rattle.domain_parts.proofs.PartLists.{found-peer}
use Rattle.domain_parts.proofs.PieceReadings.{CarriesPiece, piece-read}
use Rattle.domain_parts.proofs.Pieces.{begins-held, begins-whole, coming-read, joins-held, joins-whole, joins-within, row-held, row-stray, row-whole, stray}

-- what goes back at once is all that brought it, in whatever part it came
once-back : (word : Fate) (held : List ℕ) (n : ℕ) → keeps_buffer word ≡ false → given_at_once word (held ++ n ∷ []) ≡ held ++ given_at_once word (n ∷ [])
once-back word held n returned = ap (λ (k : Bool). cond k [] (held ++ n ∷ [])) returned ∙ sym (ap (λ (k : Bool). held ++ cond k [] (n ∷ [])) returned)

module _ (b : Book) (s : DomainState) (name : Option ℕ) (peer : ℕ) (frame : List ℕ) (p : Piece) (q : PlainPiece) (said : brings p.source p.destination q ≡ reading frame) (is : IsPiece p q) where
  abbrev n : ℕ
  n = named_so name

  abbrev held : List ℕ
  held = held_of s peer

  carries : CarriesPiece frame p.source q
  carries = piece-read frame p.source p.destination q said

  bytes-are : q.content ≡ piece_bytes frame p.size
  bytes-are = carries.content_is ∙ ap (λ (k : ℕ). take k (drop 28 frame)) is.size

  came-so : (c : Coming) → coming_from s peer frame ≡ c → came_from s peer name frame ≡ came_by c held name
  came-so c so = ap (λ (z : Coming). came_by z held name) so

  gives-so : (c : Coming) (word : Fate) → coming_from s peer frame ≡ c → given_by_frame s peer name frame word ≡ names_ended c.joins held ++ given_at_once word (came_by c held name).names
  gives-so c word so = ap (λ (z : Coming). names_ended z.joins held ++ given_at_once word (came_by z held name).names) so

  -- ---- it goes on with none

  pub stray-dealt : (d : Desk) → coming_from s peer frame ≡ alone p.source p.destination q → begins q ≡ false → IsDealt s name peer b frame d d (dealt.Alone (verdict.Returned fate.Stray) 28)
  stray-dealt d so none =
      let here = so ∙ stray p.source p.destination q none in
      record {
        verdict = record { effect = nothing; applies = true; row_is = row-stray s peer name frame p.source p.destination q false here; returned = refl; placed = tt; left = refl };
        shut = ap (taken_change peer) (came-so _ here);
        gives = gives-so _ fate.Stray here;
      }

  pub begun-dealt : (d : Desk) → coming_from s peer frame ≡ alone p.source p.destination q → begins q ≡ true → ((slot : Slot) → is_whole (begun_by slot p) ≡ false) → p.total ≤ item_size → IsDealt s name peer b frame d d (dealt.Begins p)
  begun-dealt d so first more most =
      let here : (slot : Slot) → coming_from s peer frame ≡ coming_so (brings p.source p.destination q) (Some (part_with (begun_by slot p) q.content)) false = λ slot. so ∙ begins-held p q is first slot (more slot) in
      let any : Slot = record { peer = 0; buffer = 0 } in
      let inside = carries.inside in
      let within = carries.within in
      let size = is.size in
      let total = is.total in
      record {
        source = carries.from;
        priority = carries.says ∙ ap carrier_priority is.carrier;
        channel = carries.on ∙ ap carrier_channel is.carrier;
        inside = omega (arith, inside, size);
        within = omega (arith, within, size, total);
        most = most;
        row_is = row-held s peer name frame p.source p.destination q _ false (here any);
        opens = λ slot. ap (taken_change peer) (came-so _ (here slot)) ∙ ap (λ (xs : List ℕ). frame_taken peer (Some (part_with (begun_by slot p) xs)) (n ∷ [])) bytes-are;
        gives = gives-so _ fate.Part (here any);
        same = refl;
      }

  -- ---- it is a whole item itself

  module _ (so : coming_from s peer frame ≡ alone p.source p.destination q) (first : begins q ≡ true) (whole : (p.size == p.total) ≡ true) where
    abbrev own : PlainLetter
    own = carried (carrier_in p.carrier) q.content

    abbrev pub once : Came
    once = came_by (coming_so (says p.source p.destination own) None false) held name

    own-here : coming_from s peer frame ≡ coming_so (says p.source p.destination own) None false
    own-here = so ∙ begins-whole p q is first (record { peer = 0; buffer = 0 }) whole

    own-row : row_from s peer name frame ≡ letter_row s once peer p.source p.destination own
    own-row = row-whole s peer name frame p.source p.destination own false own-here

    own-item : (size : ℕ) → size ≡ p.size → taken.item_of peer once p.source own ≡ framed_item (n ∷ []) peer frame 28 size
    own-item size long =
        carried-item (carrier_in p.carrier) q.content once peer p.source
        ∙ ap (λ (k : ℕ). item_with (n ∷ []) peer k (carrier_priority (carrier_in p.carrier)) (carrier_channel (carrier_in p.carrier)) q.content) (sym carries.from)
        ∙ ap (λ (k : Carrier). item_with (n ∷ []) peer (source_of frame) (carrier_priority k) (carrier_channel k) q.content) (sym is.carrier)
        ∙ ap (λ (k : ℕ). item_with (n ∷ []) peer (source_of frame) k (carrier_channel q.carrier) q.content) (sym carries.says)
        ∙ ap (λ (o : Option ℕ). item_with (n ∷ []) peer (source_of frame) (priority_of frame) o q.content) (sym carries.on)
        ∙ ap (item_with (n ∷ []) peer (source_of frame) (priority_of frame) (channel_of frame)) (bytes-are ∙ ap (λ (k : ℕ). piece_bytes frame k) (sym long))

    own-size : (size : ℕ) → size ≡ length (taken.item_of peer once p.source own).content → size ≡ p.size
    own-size size long = long ∙ ap (λ (i : state.Item). length i.content) (carried-item (carrier_in p.carrier) q.content once peer p.source) ∙ is.size

    own-fits : (size : ℕ) → size ≡ p.size → Fits frame 28 size
    own-fits size long =
        let inside = carries.inside in
        let within = carries.within in
        let most = carries.most in
        let came = is.size in
        record { short = omega (arith, within, most, came, long); behind = omega arith; inside = omega (arith, inside, came, long) }

    own-verdict : (d : Desk) (v : Verdict) → IsJudged s once peer p.source p.destination own v d d → IsVerdict s name peer frame 28 v d d
    own-verdict d (verdict.Queued place priority size) j =
        let long = own-size size j.1 in (
          subst (λ (z : Row). IsQueued s z (framed_item (n ∷ []) peer frame 28 size) place) (sym own-row) (subst (λ (i : state.Item). IsQueued s (letter_row s once peer p.source p.destination own) i place) (own-item size long) j.3),
          own-fits size long,
          ap (λ (i : state.Item). i.priority) (sym (own-item size long)) ∙ sym j.2,
          refl,
        )
    own-verdict d (verdict.Handed id a size) j =
        let long = own-size size j.1 in (
          subst (λ (z : Row). IsHanded s d.requests z (framed_item (n ∷ []) peer frame 28 size) id a) (sym own-row) (subst (λ (i : state.Item). IsHanded s d.requests (letter_row s once peer p.source p.destination own) i id a) (own-item size long) j.2),
          own-fits size long,
          refl,
        )
    own-verdict d (verdict.Returned word) j = subst (λ (z : Row). IsReturned s peer z word d d) (sym own-row) j

    pub own-dealt : (d : Desk) (v : Verdict) → IsJudged s once peer p.source p.destination own v d d → IsDealt s name peer b frame d d (dealt.Alone v 28)
    own-dealt d v j = record {
      verdict = own-verdict d v j;
      shut = ap (taken_change peer) (came-so _ own-here);
      gives = gives-so _ (fate_of v) own-here;
    }

  -- ---- it goes on with the open part

  module _ (r : Records) (o : OpenPart) (open_is : part_open r peer ≡ Some o) (part : part_of s peer ≡ Some (part_with o (content_in (whole_at b o.slot)))) (came : length (content_in (whole_at b o.slot)) ≡ o.size)
      (on : goes_on (part_with o (content_in (whole_at b o.slot))) p.source p.destination q ≡ true) where
    abbrev was : List ℕ
    was = content_in (whole_at b o.slot)

    abbrev g : OpenPart
    g = grown_by o p

    read : coming_from s peer frame ≡ coming (Some (part_with o was)) (brings p.source p.destination q)
    read = coming-read s peer name frame (Some (part_with o was)) (brings p.source p.destination q) part said

    inside-is : 28 + p.size ≤ length frame
    inside-is = let inside = carries.inside in let size = is.size in omega (arith, inside, size)

    within-is : o.size + p.size ≤ o.total
    within-is = joins-within p q is o was came on frame p.source carries

    bytes-all : was ++ q.content ≡ was ++ piece_bytes frame p.size
    bytes-all = ap (λ (xs : List ℕ). was ++ xs) bytes-are

    grown-dealt : (q' : Requests) (names : Names) (replies : List Reply) → is_whole g ≡ false → IsDealt s name peer b frame (desk r q' names replies) (desk r q' names replies) (dealt.Grows g p.size)
    grown-dealt q' names replies more =
        let here = read ∙ joins-held p q is o was came on more in
        record {
          before = o;
          is = refl;
          on = record { was = open_is; inside = inside-is; within = within-is };
          row_is = row-held s peer name frame o.source o.destination q _ true here;
          opens = ap (taken_change peer) (came-so _ here) ∙ ap (λ (xs : List ℕ). frame_taken peer (Some (part_with g xs)) (held ++ n ∷ [])) bytes-all;
          gives = gives-so _ fate.Part here;
          same = refl;
        }

    module _ (whole : is_whole g ≡ true) where
      abbrev l : PlainLetter
      l = carried (carrier_of o) (was ++ q.content)

      abbrev by : Came
      by = came_by (coming_so (says o.source o.destination l) None true) held name

      here : coming_from s peer frame ≡ coming_so (says o.source o.destination l) None true
      here = read ∙ joins-whole p q is o was came on whole

      row-is : row_from s peer name frame ≡ letter_row s by peer o.source o.destination l
      row-is = row-whole s peer name frame o.source o.destination l true here

      shut-is : taken_change peer (came_from s peer name frame) ≡ frame_taken peer None []
      shut-is = ap (taken_change peer) (came-so _ here)

      item-is : (d : Desk) → taken.item_of peer by o.source l ≡ item_whole s name peer b frame d d o p.size
      item-is d = carried-item (carrier_of o) (was ++ q.content) by peer o.source ∙ ap (item_with (held ++ n ∷ []) peer o.source (carrier_priority (carrier_of o)) (carrier_channel (carrier_of o))) bytes-all

      whole-dealt : (q' : Requests) (names : Names) (replies : List Reply) (v : Verdict) → IsJudged s by peer o.source o.destination l v (desk r q' names replies) (desk r q' names replies) → IsDealt s name peer b frame (desk r q' names replies) (desk r q' names replies) (whole_as g p.size v)
      whole-dealt q' names replies (verdict.Queued place priority size) j =
          let d = desk r q' names replies in
          record {
            before = o;
            is = refl;
            on = record { was = open_is; inside = inside-is; within = within-is };
            becomes = (ap (λ (z : state.Item). z.priority) (sym (item-is d)) ∙ sym j.2, subst (λ (z : Row). IsQueued s z (item_whole s name peer b frame d d o p.size) place) (sym row-is) (subst (λ (z : state.Item). IsQueued s (letter_row s by peer o.source o.destination l) z place) (item-is d) j.3));
            shut = shut-is;
            gives = gives-so _ fate.Queued here;
            same = refl;
          }
      whole-dealt q' names replies (verdict.Handed id a size) j =
          let d = desk r q' names replies in
          record {
            before = o;
            is = refl;
            on = record { was = open_is; inside = inside-is; within = within-is };
            becomes = subst (λ (z : Row). IsHanded s q' z (item_whole s name peer b frame d d o p.size) id a) (sym row-is) (subst (λ (z : state.Item). IsHanded s q' (letter_row s by peer o.source o.destination l) z id a) (item-is d) j.2);
            shut = shut-is;
            gives = gives-so _ fate.Handed here;
            same = refl;
          }
      whole-dealt q' names replies (verdict.Returned word) j =
          let d = desk r q' names replies in
          record {
            verdict = subst (λ (z : Row). IsReturned s peer z word d d) (sym row-is) j;
            shut = shut-is;
            gives = gives-so _ word here ∙ once-back word held n j.returned;
          }

    pub joins-dealt : (q' : Requests) (names : Names) (replies : List Reply) (made : Dealt) → Shows s peer b (desk r q' names replies) → GrowsBy (is_whole g) r q' g p.size made → IsDealt s name peer b frame (desk r q' names replies) (desk r q' names replies) made
    joins-dealt q' names replies made shows grows = go (is_whole g) refl grows
      where
        go : (c : Bool) → is_whole g ≡ c → GrowsBy c r q' g p.size made → IsDealt s name peer b frame (desk r q' names replies) (desk r q' names replies) made
        go false more is = subst (IsDealt s name peer b frame (desk r q' names replies) (desk r q' names replies)) (sym is) (grown-dealt q' names replies more)
        go true whole (v, same, judges) =
            let own : o.slot.peer ≡ peer = found-peer peer r.parts o open_is in
            let long : length (was ++ q.content) ≡ g.size = length-append was q.content ∙ ap₂ (λ a c. a + c) came is.size in
            let judged = judges (was ++ q.content) replies long b s (by whole) names (subst (λ (k : ℕ). Shows s k b (desk r q' names replies)) (sym own) shows) in
            subst (IsDealt s name peer b frame (desk r q' names replies) (desk r q' names replies)) (sym same)
            (whole-dealt whole q' names replies v (subst (λ (k : ℕ). IsJudged s (by whole) k o.source o.destination (l whole) v (desk r q' names replies) (desk r q' names replies)) own judged))
