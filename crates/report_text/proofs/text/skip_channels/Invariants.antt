use Rattle.std.proofs.Common.{◌≡◌, length}
use Rattle.report_text.specs.TextPass.{channels_from}
use Rattle.report_text.specs.Texts.{IsBehind, rest_of}
use Rattle.report_text.proofs.text.skip_channels.Given as goal

abbrev pub decreases-loop-behind : goal.decreases-loop-behind
decreases-loop-behind l = length l.rest.text.now

abbrev pub invariant-loop-behind : goal.invariant-loop-behind
invariant-loop-behind l = record {
  value : channels_from l.rest.number (rest_of l.rest).lines ≡ channels_from l.unread.number (rest_of l.unread).lines;
  behind : IsBehind l.unread l.rest;
}
