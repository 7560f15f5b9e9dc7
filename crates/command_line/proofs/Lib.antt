pub mod Lacking
pub mod Numbers
pub mod Several
pub mod Telling
pub mod Told
