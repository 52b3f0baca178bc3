pub mod BuffersBack
