pub mod Reading
pub mod Page
pub mod Segments
pub mod Spans
pub mod RoundTrip
