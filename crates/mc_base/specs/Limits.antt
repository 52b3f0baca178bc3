-- The numbers that the definitions rest on.
-- Source: the limits of docs/PROFILE.md, the RPMsg headers of Linux, and VIRTIO 1.2, section 2.7.
use Rattle.std.specs.Prelude.{◌≡◌, ℕ, ◌+◌, ◌-◌, ◌%◌, ◌≤◌}

-- the most domains of a board, and the highest number of one: they are numbered from 0
abbrev pub domain_limit : ℕ
domain_limit = 8

abbrev pub last_domain : ℕ
last_domain = domain_limit - 1

-- the most nodes of a domain, and the highest number of one
abbrev pub node_limit : ℕ
node_limit = 16

abbrev pub last_node : ℕ
last_node = node_limit - 1

-- the most buffers of a ring
abbrev pub ring_limit : ℕ
ring_limit = 32768

-- the most buffers of each ring of a board's link, and of a domain's own pool
abbrev pub link_limit : ℕ
link_limit = 256

abbrev pub pool_limit : ℕ
pool_limit = 256

-- the fewest and the most bytes of a buffer
abbrev pub shortest_buffer : ℕ
shortest_buffer = 64

abbrev pub longest_buffer : ℕ
longest_buffer = 4096

-- the numbers of bytes that the buffers of a ring can have: the multiples of 64 from 64 to 4096
abbrev pub IsBufferLength : ℕ → Type 0
IsBufferLength w = (shortest_buffer ≤ w) × (w ≤ longest_buffer) × (w % shortest_buffer ≡ 0)

-- the bytes of a buffer of a link
abbrev pub buffer_size : ℕ
buffer_size = 512

-- the bytes of a buffer of a domain's own pool
abbrev pub pool_buffer_size : ℕ
pool_buffer_size = 512

-- the most bytes of a frame
abbrev pub longest_frame : ℕ
longest_frame = 512

-- the most bytes of a message or packet
abbrev pub item_size : ℕ
item_size = 8192

-- the most bytes of one that a single frame carries, and of a part of one
abbrev pub single_size : ℕ
single_size = 488

abbrev pub piece_size : ℕ
piece_size = 484

-- the bytes of the header of a frame
abbrev pub frame_header_size : ℕ
frame_header_size = 16

-- the bytes of the header of a letter
abbrev pub letter_header_size : ℕ
letter_header_size = 8

-- the bytes of a name announcement
abbrev pub announcement_size : ℕ
announcement_size = 40

-- the most bytes of an announced name
abbrev pub name_size : ℕ
name_size = 31

-- the address of the name service
abbrev pub name_service_address : ℕ
name_service_address = 53

-- the address of a domain's first endpoint
abbrev pub first_address : ℕ
first_address = 1024

-- the most endpoint records in use
abbrev pub record_limit : ℕ
record_limit = 64

-- the most endpoints that a domain ever makes
abbrev pub creation_limit : ℕ
creation_limit = 60000

-- the most channels that a domain ever numbers
abbrev pub channel_limit : ℕ
channel_limit = 65535

-- the most replies that are owed to a domain, and the most announcements: the creation and the end of each record
abbrev pub reply_limit : ℕ
reply_limit = 64

abbrev pub announcement_limit : ℕ
announcement_limit = record_limit + record_limit

-- the most frames that a turn takes from a lane, and the most owed ones that it puts
abbrev pub turn_limit : ℕ
turn_limit = 8

-- the most requests that stand
abbrev pub request_limit : ℕ
request_limit = 64

-- the key that no request has
abbrev pub no_key : ℕ
no_key = 4294967295

-- the highest number of a priority: they are numbered from 0
abbrev pub last_priority : ℕ
last_priority = 3

-- the most bytes that a line of a scenario sends or asks for
abbrev pub asked_limit : ℕ
asked_limit = 9000

-- the most tries of a line
abbrev pub try_limit : ℕ
try_limit = 4294967295
