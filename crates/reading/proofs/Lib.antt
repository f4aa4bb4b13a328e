pub mod KeyLaws
pub mod ListLaws
pub mod ValueLaws
pub mod WrittenLaws
