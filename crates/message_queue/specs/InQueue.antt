-- What the fields of a message queue stand for.
-- Source: the code of the queue.
use Rattle.message_queue.specs.declared.queue.MessageQueue.TheInside.{Inside}
use Rattle.message_queue.specs.Queue.{Queue}
use Rattle.message_queue.specs.Cells.{room_of, waiting_in}

abbrev pub queue_of : Inside → Queue
queue_of q = record { room = room_of q.cells; waiting = waiting_in q.cells }
