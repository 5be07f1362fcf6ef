pub mod Whose
pub mod Faulty
pub mod Left
pub mod Together
