mod ListsHad
mod LogsCollected
mod TakenBy
mod SentTo
pub mod Followed
mod ClientSends
mod ServerSends
pub mod Requests
mod Carried
pub mod CallsCarried
mod Room
mod Replies
mod GotReplies
pub mod CallsGot
