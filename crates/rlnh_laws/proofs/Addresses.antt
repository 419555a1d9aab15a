-- What an incarnation's address means, and that another meaning of one address leaves the others.
pub use Rattle.link_addresses.proofs.Indexing.{address_found, address_missing}
pub use Rattle.link_addresses.proofs.Lists.{changes_at, closing_taken, live_taken}
