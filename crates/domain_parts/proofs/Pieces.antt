-- What a piece says together with the open part of its peer, and the part that is open after it, by what the code holds of both.
use Rattle.std.proofs.Common.{◌≡◌, ℕ, ◌+◌, ◌≤◌, Bool, true, false, cond, List, [], ◌∷◌, ◌++◌, length, length-append, Option, Some, None, refl, sym, ap, ap₂, ◌∙◌, arith, eqb-true}
use Rattle.std.specs.Prelude.{◌==◌}
use Rattle.mc_base.specs.Letter.{Piece as PlainPiece, PlainLetter, carried, piece_in, plain_letter, saying_by, saying_of}
use Rattle.mc_base.specs.Reading.{Reading, brings, is_faulty, announces, says, says_so, reading}
use Rattle.mc_base.specs.Limits.{item_size}
use Rattle.mc_base.specs.declared.letter.Letter.{Letter}
use Rattle.mc_base.specs.declared.request.Slot.{Slot}
use Rattle.mc_base.specs.declared.fate.Fate.TheVariants.{Stray, Part as Held}
use Rattle.board_model.specs.Change.{frame_taken}
use Rattle.board_model.specs.Deeds.{taken_change}
use Rattle.board_model.specs.Parts.{Coming, alone, begins, begun, Came, came_by, came_from, coming, coming_from, coming_so, goes_on, grown, named_so, part_of, same_carrier}
use Rattle.board_model.specs.State.{DomainState, Part, held_of}
use Rattle.board_model.specs.TakenFrames.{row, row_from, row_of}
use Rattle.domain_parts.specs.declared.parts.OpenPart.{OpenPart}
use Rattle.domain_parts.specs.declared.parts.Piece.{Piece}
use Rattle.domain_parts.specs.Growing.{IsNoPiece, IsPiece, IsRead, begun_by, grown_by, is_whole}
use Rattle.domain_parts.specs.Pieces.{carrier_by, carrier_in, carrier_of, channel_in, kind_in, part_with, priority_in}
use Rattle.domain_parts.specs.declared.parts.Carrier.{Carrier}
use Rattle.domain_parts.specs.declared.parts.Carrier.TheVariants as carrier
use Rattle.domain_parts.specs.Verdicts.{letter_row}
use Rattle.domain_parts.proofs.PieceReadings.{CarriesPiece, and-both, piece-read}

-- a frame that is no piece says what it says by itself, and no part is open after it
pub other-coming : (o : Option Part) (r : Reading) → IsNoPiece r → coming o r ≡ coming_so r None false
other-coming o (is_faulty f) other = refl
other-coming o (announces text address there) other = refl
other-coming o (says source destination l) other = refl
other-coming o (brings source destination q) other = absurd other

-- a letter that says no piece is none
pub no-piece-in : (l : Letter) (source destination : ℕ) → IsNoPiece (says_so source destination (saying_of l)) → piece_in l ≡ None
no-piece-in l source destination = go (piece_in l)
  where
    go : (o : Option PlainPiece) → IsNoPiece (says_so source destination (saying_by o (plain_letter l))) → o ≡ None
    go None other = refl
    go (Some p) other = absurd other

-- a piece that was read has no more bytes than an item may have
pub read-fits : (l : Letter) (source destination : ℕ) (q : PlainPiece) → piece_in l ≡ Some q → IsRead (says_so source destination (saying_of l)) → length q.content ≤ item_size
read-fits l source destination q some read =
    let c = piece-read read.frame source destination q (sym (ap (λ o. says_so source destination (saying_by o (plain_letter l))) some) ∙ read.is) in
    let within = c.within in
    let most = c.most in
    omega (arith, within, most)

-- what the code answers of a piece that may begin a part
pub begins-so : (p : Piece) (q : PlainPiece) → IsPiece p q → (p.offset == 0) ≡ begins q
unfolding begins
begins-so p q is = ap (λ n. n == 0) (sym is.offset)

-- a part that begins is carried as its first piece is
pub carrier-begun : (c : Carrier) → carrier_by (kind_in c) (priority_in c) (channel_in c) ≡ carrier_in c
carrier-begun (carrier.Message priority) = refl
carrier-begun (carrier.Packet channel) = refl

-- with a piece more, a part is whole or not
module _ (joins : Bool) (p : Part) (q : PlainPiece) where
  abbrev grown_so : Bool → Coming
  grown_so whole = cond whole (coming_so (says p.source p.destination (carried p.carrier (p.content ++ q.content))) None joins) (coming_so (brings p.source p.destination q) (Some (record p { content = p.content ++ q.content })) joins)

  by_size : (whole : Bool) → (length (p.content ++ q.content) == p.total) ≡ whole → grown joins p q ≡ grown_so whole
  by_size whole is = ap grown_so is

module _ (p : Piece) (q : PlainPiece) (is : IsPiece p q) where
  -- ---- a piece where a part is open, of which these bytes came

  module _ (o : OpenPart) (content : List ℕ) (came : length content ≡ o.size) where
    abbrev here : Part
    here = part_with o content

    size_so : (length (content ++ q.content) == o.total) ≡ is_whole (grown_by o p)
    size_so = ap (λ n. n == o.total) (length-append content q.content ∙ ap₂ (λ n m. n + m) came is.size)

    -- the bytes that came
    pub grown-size : length (content ++ q.content) ≡ (grown_by o p).size
    grown-size = length-append content q.content ∙ ap₂ (λ n m. n + m) came is.size

    module _ (on : goes_on here p.source p.destination q ≡ true) where
      joins_so : coming (Some here) (brings p.source p.destination q) ≡ grown true here q
      joins_so = ap (λ b. cond b (grown true here q) (alone p.source p.destination q)) on

      pub joins-whole : is_whole (grown_by o p) ≡ true → coming (Some here) (brings p.source p.destination q) ≡ coming_so (says o.source o.destination (carried (carrier_of o) (content ++ q.content))) None true
      joins-whole whole = joins_so ∙ by_size true here q true (size_so ∙ whole)

      pub joins-held : is_whole (grown_by o p) ≡ false → coming (Some here) (brings p.source p.destination q) ≡ coming_so (brings o.source o.destination q) (Some (part_with (grown_by o p) (content ++ q.content))) true
      joins-held more = joins_so ∙ by_size true here q false (size_so ∙ more)

      -- it comes from where the part comes from, and so on
      pub joins-same : (o.source ≡ p.source) × (o.destination ≡ p.destination) × (o.total ≡ p.total) × (o.size ≡ p.offset)
      joins-same =
          let a = and-both (o.source == p.source) _ on in
          let b = and-both (o.destination == p.destination) _ a.1 in
          let c = and-both (same_carrier (carrier_of o) q.carrier) _ b.1 in
          let d = and-both (o.total == q.total) _ c.1 in
          (eqb-true o.source p.source a.0, eqb-true o.destination p.destination b.0, eqb-true o.total q.total d.0 ∙ is.total, sym came ∙ eqb-true (length content) q.offset d.1 ∙ is.offset)

      pub joins-within : (frame : List ℕ) (source : ℕ) → CarriesPiece frame source q → o.size + p.size ≤ o.total
      joins-within frame source c =
          let within = c.within in
          let size = is.size in
          let total = joins-same.2 ∙ sym is.total in
          let offset = joins-same.3 ∙ sym is.offset in
          omega (arith, within, size, total, offset)

    -- it goes on with none
    pub passes : goes_on here p.source p.destination q ≡ false → coming (Some here) (brings p.source p.destination q) ≡ alone p.source p.destination q
    passes off = ap (λ b. cond b (grown true here q) (alone p.source p.destination q)) off

  -- ---- a piece that goes on with none

  module _ (first : begins q ≡ true) (slot : Slot) where
    begins_so : alone p.source p.destination q ≡ grown false (begun p.source p.destination q) q
    begins_so = ap (λ b. cond b (grown false (begun p.source p.destination q) q) (coming_so (brings p.source p.destination q) None false)) first

    begun_so : (length q.content == q.total) ≡ is_whole (begun_by slot p)
    begun_so = ap₂ (λ n m. n == m) is.size is.total

    pub begins-whole : is_whole (begun_by slot p) ≡ true → alone p.source p.destination q ≡ coming_so (says p.source p.destination (carried (carrier_in p.carrier) q.content)) None false
    begins-whole whole =
        begins_so ∙ by_size false (begun p.source p.destination q) q true (begun_so ∙ whole)
        ∙ ap (λ k. coming_so (says p.source p.destination (carried k q.content)) None false) is.carrier

    pub begins-held : is_whole (begun_by slot p) ≡ false → alone p.source p.destination q ≡ coming_so (brings p.source p.destination q) (Some (part_with (begun_by slot p) q.content)) false
    begins-held more =
        begins_so ∙ by_size false (begun p.source p.destination q) q false (begun_so ∙ more)
        ∙ ap₂ (λ k n. coming_so (brings p.source p.destination q) (Some (record { source = p.source; destination = p.destination; carrier = k; total = n; content = q.content })) false) (is.carrier ∙ sym (carrier-begun p.carrier)) is.total

pub stray : (source destination : ℕ) (q : PlainPiece) → begins q ≡ false → alone source destination q ≡ coming_so (brings source destination q) None false
stray source destination q none = ap (λ b. cond b (grown false (begun source destination q) q) (coming_so (brings source destination q) None false)) none

-- ---- the row of a frame

-- a frame that came by itself
abbrev pub came_alone : Option ℕ → Came
came_alone name = record { names = named_so name ∷ []; part = None }

module _ (s : DomainState) (peer : ℕ) (name : Option ℕ) (frame : List ℕ) where
  -- by what is open, and what the frame says by itself
  pub coming-read : (o : Option Part) (r : Reading) → part_of s peer ≡ o → r ≡ reading frame → coming_from s peer frame ≡ coming o r
  coming-read o r open_is said = ap₂ coming open_is (sym said)

  -- by what it says together with the open part of its peer
  pub row-coming : (c : Coming) → coming_from s peer frame ≡ c → row_from s peer name frame ≡ row_of s peer (came_by c (held_of s peer) name) c.reading
  row-coming c is = ap (λ x. row_of s peer (came_by x (held_of s peer) name) x.reading) is

  -- a message or packet that is whole has the row of its letter
  pub row-whole : (source destination : ℕ) (l : PlainLetter) (joins : Bool) → coming_from s peer frame ≡ coming_so (says source destination l) None joins
      → row_from s peer name frame ≡ letter_row s (came_by (coming_so (says source destination l) None joins) (held_of s peer) name) peer source destination l
  row-whole source destination l joins is = row-coming _ is

  -- a piece is stray, or held in the part that is open after it
  pub row-stray : (source destination : ℕ) (q : PlainPiece) (joins : Bool) → coming_from s peer frame ≡ coming_so (brings source destination q) None joins → row_from s peer name frame ≡ row true Stray []
  row-stray source destination q joins is = row-coming _ is

  pub row-held : (source destination : ℕ) (q : PlainPiece) (p : Part) (joins : Bool) → coming_from s peer frame ≡ coming_so (brings source destination q) (Some p) joins → row_from s peer name frame ≡ row true Held []
  row-held source destination q p joins is = row-coming _ is

  -- a frame that is no piece came by itself, and what it says is dealt with whatever part was open
  module _ (r : Reading) (said : r ≡ reading frame) (other : IsNoPiece r) where
    pub coming-no_piece : coming_from s peer frame ≡ coming_so r None false
    coming-no_piece = coming-read (part_of s peer) r refl said ∙ other-coming (part_of s peer) r other

    pub came-no_piece : came_from s peer name frame ≡ came_alone name
    came-no_piece = ap (λ c. came_by c (held_of s peer) name) coming-no_piece

    pub taken-no_piece : taken_change peer (came_from s peer name frame) ≡ frame_taken peer None []
    taken-no_piece = ap (taken_change peer) came-no_piece

    pub row-no_piece : row_from s peer name frame ≡ row_of s peer (came_alone name) r
    row-no_piece = row-coming (coming_so r None false) coming-no_piece
