use Rattle.std.proofs.Common.{◌≡◌, ◌≤◌, take}
use Rattle.std.specs.Str.Parse.{AllDigits, digits_value}
use Rattle.name_service.proofs.full_names.value.Given as goal

-- All bytes so far are digits, and this is their value.
abbrev pub invariant-loop-digit : goal.invariant-loop-digit
invariant-loop-digit l = record {
  all : AllDigits 10 (take l.digit-index l.digits);
  valued : l.value ≡ digits_value 10 (take l.digit-index l.digits);
  within : l.value ≤ l.most;
}
