pub mod LogSteps
pub mod Images
pub mod Legality
pub mod StepLeads
pub mod RefusedPackets
