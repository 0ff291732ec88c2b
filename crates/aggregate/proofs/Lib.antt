pub mod Ends
pub mod Medians
pub mod Numbers
pub mod Rising
pub mod Searching
pub mod Sixteenths
pub mod Sound
pub mod Totals
