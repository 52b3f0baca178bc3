-- What a frame says together with the open part of its peer, as the replay keeps it.
-- Source: the definitions of `board_model`, `Parts`.
use Rattle.std.specs.Prelude.{◌≡◌, ℕ, ◌≤◌, Bool, false, length, Option, Some, None}
use Rattle.mc_base.specs.Letter.{Piece as PlainPiece, carried, piece}
use Rattle.mc_base.specs.Reading.{Reading, brings, says}
use Rattle.name_service.specs.Said.{reading_of}
use Rattle.board_model.specs.Parts.{Coming, coming_so, grown, piece_coming}
use Rattle.board_model.specs.State.{Part}
use Rattle.report_replay.specs.declared.part.Piece.{Piece}
use Rattle.report_replay.specs.declared.part.Says.{Says}
use Rattle.report_replay.specs.declared.part.Says.TheVariants.{Alone, Held, Whole}
use Rattle.report_replay.specs.Replayed.{most_bytes}
use Rattle.report_replay.specs.Views.{carrier_of}

-- ---- a piece

abbrev pub piece_of : Piece → PlainPiece
piece_of p = piece (carrier_of p.carrier) p.total p.offset p.bytes.now

abbrev pub IsNoPiece : Reading → Type 0
IsNoPiece (brings source destination q) = ⊥
IsNoPiece other = Unit {0}

-- what a frame says by itself: this piece, or none
abbrev pub Brings : Option Piece → Reading → Type 0
Brings None r = IsNoPiece r
Brings (Some p) r = r ≡ brings p.source p.destination (piece_of p)

-- ---- with the open part

-- the part that a piece is of, and whether it was open. A piece that is of none is stray
abbrev pub IsPartOf : Option Part → Piece → Option (Part × Bool) → Type 0
IsPartOf before q None = piece_coming before q.source q.destination (piece_of q) ≡ coming_so (brings q.source q.destination (piece_of q)) None false
IsPartOf before q (Some x) = piece_coming before q.source q.destination (piece_of q) ≡ grown x.1 x.0 (piece_of q)

-- a piece, of the part that is open after it
abbrev pub IsHeld : Coming → Type 0
IsHeld c = (source : ℕ) × (destination : ℕ) × (q : PlainPiece) × (p : Part) × (c.reading ≡ brings source destination q) × (c.part ≡ Some p)

-- of a frame that says this by itself
abbrev pub SaysSo : Reading → Says → Coming → Type 0
SaysSo own (Alone said) c = (reading_of said ≡ own) × (c ≡ coming_so own None false)
SaysSo own Held c = IsHeld c
SaysSo own (Whole p) c = (c.reading ≡ says p.source p.destination (carried p.carrier p.content)) × (c.part ≡ None) × (length p.content ≤ most_bytes)
