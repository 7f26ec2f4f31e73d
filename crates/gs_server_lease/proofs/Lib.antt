mod Lists
mod Opening
