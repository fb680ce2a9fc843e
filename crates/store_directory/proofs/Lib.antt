pub mod PathLaws
pub mod NotedLaws
