-- What the code reads of a frame that brings a piece, and how an open part begins and grows by one.
-- Source: docs/FORMATS.md, "Payload header, version 2", and docs/PROFILE.md, "What a domain does with a taken frame".
use Rattle.std.specs.Prelude.{◌≡◌, ℕ, ◌+◌, Bool, ◌==◌, List, length, Option, None, Some}
use Rattle.mc_base.specs.Letter as letter
use Rattle.mc_base.specs.Reading.{Reading, brings, reading}
use Rattle.mc_base.specs.declared.request.Slot.{Slot}
use Rattle.domain_parts.specs.Pieces.{carrier_in, channel_in, kind_in, priority_in}
use Rattle.domain_parts.specs.declared.parts.OpenPart.{OpenPart}
use Rattle.domain_parts.specs.declared.parts.Piece.{Piece}

-- ---- a piece

-- the code's piece is this one: it has all of it but the bytes, and how many they are
pub record IsPiece (p : Piece) (q : letter.Piece) : Type 0 where
  pub carrier : q.carrier ≡ carrier_in p.carrier
  pub total : q.total ≡ p.total
  pub offset : q.offset ≡ p.offset
  pub size : length q.content ≡ p.size

abbrev pub IsNoPiece : Reading → Type 0
IsNoPiece (brings source destination q) = ⊥
IsNoPiece other = Unit {0}

-- a frame brings this piece, or none
abbrev pub BringsPiece : Option Piece → Reading → Type 0
BringsPiece None r = IsNoPiece r
BringsPiece (Some p) r = (q : letter.Piece) × (r ≡ brings p.source p.destination q) × IsPiece p q

-- some frame says this
pub record IsRead (r : Reading) : Type 0 where
  pub frame : List ℕ
  pub is : r ≡ reading frame

-- ---- an open part

-- a piece begins it, whose buffer has this slot
abbrev pub begun_by : Slot → Piece → OpenPart
begun_by slot p = record { slot = slot; source = p.source; destination = p.destination; kind = kind_in p.carrier; priority = priority_in p.carrier; channel = channel_in p.carrier; total = p.total; size = p.size }

-- a piece comes to it
abbrev pub grown_by : OpenPart → Piece → OpenPart
grown_by o p = record o { size = o.size + p.size }

-- all its bytes came
abbrev pub is_whole : OpenPart → Bool
is_whole o = o.size == o.total
