mod EndsKept
mod EventLists
