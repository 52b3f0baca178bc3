-- Where the actors of a relay stand, by what they hold.
-- Source: docs/PROFILE.md, "Relays".
use Rattle.std.specs.Prelude.{[], map}
use Rattle.hop_relay.specs.declared.first.First.{First}
use Rattle.hop_relay.specs.declared.role.Role.{Role}
use Rattle.hop_relay.specs.declared.role.Role.TheVariants as role
use Rattle.hop_relay.specs.declared.taker.Taker.{Taker}
use Rattle.hop_relay.specs.Steps.{Place}

-- the first domain receives nothing
abbrev pub place_of_first : First → Place
place_of_first f = record { step = f.progress.step; opening_left = f.progress.opening; packets_left = map (λ p. p.items) f.packets; receives_asked = 0 }

abbrev pub as_first : First → Role
as_first f = role.First (map (λ p. p.items) f.all.value.items)

-- one that receives packets keeps none of them
abbrev pub place_of_taker : Taker → Place
place_of_taker t = record { step = t.progress.step; opening_left = t.progress.opening; packets_left = []; receives_asked = t.receives }

abbrev pub as_middle : Taker → Role
as_middle t = role.Middle t.domain t.most

abbrev pub as_last : Taker → Role
as_last t = role.Last t.domain t.most
