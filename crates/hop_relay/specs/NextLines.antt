-- The next lines of actors, by what they hold.
-- Source: docs/PROFILE.md, "Relays".
use Rattle.std.specs.Prelude.{ℕ, List, [], map, Option, Vec}
use Rattle.std.specs.Global.{Global}
use Rattle.board_model.specs.declared.scenario.CallLine.{CallLine}
use Rattle.board_model.specs.Journal.{PlainAnswer}
use Rattle.hop_relay.specs.declared.progress.Progress.{Progress}
use Rattle.hop_relay.specs.declared.role.Role.{Role}
use Rattle.hop_relay.specs.declared.role.Role.TheVariants.{First}
use Rattle.hop_relay.specs.declared.taker.Taker.{Taker}
use Rattle.hop_relay.specs.Steps.{after_ok, behind, opening_after, opening_next, or_else}

-- the bytes of packets
abbrev pub contents : List (Vec ℕ Global) → List (List ℕ)
contents packets = map (λ p. p.items) packets

-- the lines of the opening that are left then
abbrev pub opening_then : Progress → Option PlainAnswer → List CallLine
opening_then r told = opening_after r.step r.opening told

-- of the first domain. That does not hang on all the packets that it had
abbrev pub behind_first : Progress → List (Vec ℕ Global) → Option PlainAnswer → Option CallLine
behind_first r packets told = behind (First []) (contents packets) 0 r.step told

abbrev pub next_of_first : Progress → List (Vec ℕ Global) → Option PlainAnswer → Option CallLine
next_of_first r packets told = or_else (opening_next r.step r.opening told) (behind_first r packets told)

-- of a domain that receives
abbrev pub behind_taker : Role → Taker → Option PlainAnswer → Option CallLine
behind_taker role t told = behind role [] t.receives t.progress.step told

abbrev pub ok_taker : Role → Taker → Option CallLine
ok_taker role t = after_ok role [] t.receives t.progress.step
