pub mod Lists
mod Named
mod Taking
mod Filling
mod Closing
mod Opening
mod Listing
mod Found
mod OpenLists
mod Adding
mod Capturing
mod Elements
mod Texts
mod Numbered
mod Fitting
mod Built
