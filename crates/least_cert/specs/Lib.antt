pub mod BootEdges
pub mod Closing
pub mod LeastCertificate
