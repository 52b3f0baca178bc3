use Rattle.std.proofs.Common.{◌≡◌, false, take}
use Rattle.std.specs.List.{list_any}
use Rattle.mc_base.specs.FullName.{is_colon}
use Rattle.name_service.proofs.full_names.at_colon.Given as goal

-- No byte so far is a colon.
abbrev pub invariant-loop-i : goal.invariant-loop-i
invariant-loop-i l = list_any is_colon (take l.i l.text) ≡ false
