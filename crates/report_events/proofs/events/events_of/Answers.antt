use Rattle.report_events.proofs.events.events_of.Goals as goal

pub returns : goal.returns
returns c =
    record {
      all = record { listed = _; each = c.in_ok-events.ensures; once = c.order_events.ensures.once };
      own = c.in_ok-order_events.ensures.own;
      frames = c.in_ok-order_events.ensures.frames;
      buffers = c.in_ok-order_events.ensures.buffers;
    }
