pub mod LowerTable
