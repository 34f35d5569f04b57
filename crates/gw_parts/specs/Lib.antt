pub mod Clients
pub mod Lending
pub mod Outstations
pub mod Late
