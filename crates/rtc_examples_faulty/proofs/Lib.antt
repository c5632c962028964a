mod CourseSizes
mod RoomCourseSizes
