-- Letters that go in one frame.
use Rattle.std.proofs.Common.{◌≡◌, ℕ, [], ◌∷◌, ◌++◌, map, refl, ap}
use Rattle.std.specs.List.{flat_map}
use Rattle.mc_base.specs.Frame.{made}
use Rattle.mc_base.specs.Letter.{PlainLetter, spelling}
use Rattle.mc_base.specs.Pieces.{spellings}
use Rattle.mc_base.specs.declared.channel.Side.{Side}
use Rattle.mc_base.specs.declared.channel.Side.TheVariants.{Receiver, Sender}
use Rattle.board_model.specs.Answer.{Post, closing_letter, opening_letter, put_as, puts_of}

abbrev pub IsSingle : PlainLetter → Type 0
IsSingle l = spellings l ≡ spelling l ∷ []

pub opening-single : (side : Side) (n : ℕ) → IsSingle (opening_letter side n)
opening-single Sender n = refl
opening-single Receiver n = refl

pub closing-single : (side : Side) (n : ℕ) → IsSingle (closing_letter side n)
closing-single Sender n = refl
closing-single Receiver n = refl

-- the frame of one is all that it puts
pub post-single : (p : Post) → IsSingle p.letter → flat_map puts_of (p ∷ []) ≡ (p.peer, made p.source p.destination (spelling p.letter)) ∷ []
post-single p single = ap (λ ls. map (put_as p) ls ++ []) single
