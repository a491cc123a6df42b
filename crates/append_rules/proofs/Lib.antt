mod Copied
mod Offered
