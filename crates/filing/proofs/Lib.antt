pub mod Showing
pub mod Filings
